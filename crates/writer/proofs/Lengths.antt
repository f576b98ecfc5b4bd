-- How many bits are written.
use mathlib.Core.Path.{◌≡◌, refl}
use mathlib.Core.Bool.{Bool, true, false, cond}
use mathlib.Core.List.{List, [], ◌∷◌}
use Prim.Native.Nat.{ℕ, zero, suc, ◌+◌, ◌-◌, ◌*◌, ◌/◌, ◌≤◌}
use native.Mathlib.Omega.{arith}
use lib.Dec.{eqb}
use lib.ListN.{length, get_or, take, drop, length-append, length-drop}
use lib.Seq.{length-take-le}
use Rattle.kernel.specs.Bits.{unpack}
use Rattle.kernel.specs.Element.{passed, closed}
use Rattle.kernel.proofs.Bits.{length-bits_of}
use Rattle.kernel.proofs.Held.{length-unpack, length_first}
use Rattle.records.specs.declared.Stream.{Stream}
use Rattle.element.specs.Mux.{kind_o}
use Rattle.writer.specs.Written.{piece, bits_in, ones_bits, length_bits, lengths_bits, payload_pieces, sum_of}
use Rattle.writer.specs.Written.{subframe_pieces}
use Rattle.writer.specs.Sizes.{row_bytes, length_bytes}
use Rattle.writer.proofs.Pieces.{bits_append}
use Rattle.writer.proofs.TripElement.{sum_split}

ones_length : (k : ℕ) → length (ones_bits k) ≡ 8 * k
unfolding ones_bits
ones_length zero = refl
ones_length (suc k) = simp (length-append, length-bits_of) (omega (arith, ones_length k))

pub length-length : (n : ℕ) → length (length_bits n) ≡ 8 * (n / 255 + 1)
unfolding length_bits
length-length n = simp (length-append, length-bits_of) (omega (arith, ones_length (n / 255)))

slot_length : (b : Bool) (n : ℕ) → length (cond b (length_bits n) []) ≡ 8 * cond b (n / 255 + 1) 0
slot_length true n = length-length n
slot_length false n = refl

pub row_length : (ss : List Stream) (ns : List ℕ) → length (lengths_bits ss ns) ≡ 8 * row_bytes ss ns
unfolding lengths_bits row_bytes
row_length [] ns = refl
row_length (s ∷ ss) ns =
    simp length-append (omega (arith, slot_length (eqb s.kind 0) (get_or ns 0 0), row_length ss (drop 1 ns)))

payload_length : (k i : ℕ) (ns payload : List ℕ) → sum_of k ns ≤ length payload
    → length (bits_in (payload_pieces i k ns payload)) ≡ 8 * sum_of k ns
unfolding bits_in payload_pieces sum_of
payload_length zero i ns payload l = refl
payload_length (suc k) i ns payload l =
    let n = get_or ns 0 0 in
    simp length-append (omega (
      arith,
      length_first payload n (omega arith),
      payload_length k (i + 1) (drop 1 ns) (drop n payload) (omega (arith, length-drop n payload)),
    ))

pub slots_length : (n : ℕ) (ss : List Stream) (ns payload : List ℕ) → sum_of (n * length ss) ns ≤ length payload
    → length (bits_in (subframe_pieces n ss ns payload)) ≡ 8 * length_bytes n ss ns + 8 * sum_of (n * length ss) ns
unfolding bits_in subframe_pieces length_bytes sum_of
slots_length zero ss ns payload l = let e : 0 * length ss ≡ 0 = omega arith in rw e
slots_length (suc n) ss ns payload l =
    let k = length ss in
    let e : suc n * k ≡ k + n * k = omega arith in
    let q : sum_of (suc n * k) ns ≡ sum_of k ns + sum_of (n * k) (drop k ns) = rw e (sum_split k (n * k) ns) in
    let d : length (drop (sum_of k ns) payload) ≡ length payload - sum_of k ns = length-drop (sum_of k ns) payload in
    let rest = subframe_pieces n ss (drop k ns) (drop (sum_of k ns) payload) in
    simp (bits_append (payload_pieces 0 k ns payload) rest, length-append)
    (omega (
      arith,
      q,
      row_length ss ns,
      payload_length k 0 ns payload (omega (arith, q)),
      slots_length n ss
          (drop k ns) (drop (sum_of k ns) payload) (omega (arith, q, d)),
    ))

pub other_length_law : (b : Bool) (bits : ℕ) (other : List ℕ) → (b ≡ true → bits ≤ 8 * length other)
    → length (bits_in (cond b (piece (passed closed) kind_o 0 (take bits (unpack other)) ∷ []) [])) ≡ cond b bits 0
unfolding bits_in
other_length_law true bits other h =
    simp length-append (omega (arith, length-take-le bits (unpack other) (omega (arith, length-unpack other, h refl))))
other_length_law false bits other h = refl
