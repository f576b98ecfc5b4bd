-- What stands in the items of what is written: the payload, and other data.
use mathlib.Core.Path.{◌≡◌, refl, sym, ◌∙◌}
use mathlib.Core.Bool.{Bool, false, cond}
use mathlib.Core.List.{List, [], ◌∷◌, ◌++◌, append_assoc}
use Prim.Native.Nat.{ℕ, zero, suc, ◌+◌, ◌-◌, ◌*◌, ◌≤◌}
use native.Mathlib.Omega.{arith}
use lib.Dec.{eqb}
use lib.ListN.{length, get_or, take, drop, length-append, length-drop}
use lib.Seq.{take-append_seam, drop-append_seam, drop-drop}
use Rattle.kernel.specs.Bits.{unpack}
use Rattle.kernel.proofs.Held.{unpack_split, length_first}
use Rattle.records.specs.declared.Stream.{Stream}
use Rattle.element.specs.Mux.{kind_l, kind_p}
use Rattle.writer.specs.Written.{Piece, bits_in, items_at, payload_pieces, sum_of, subframe_pieces}
use Rattle.writer.specs.Claims.{contents_of, widths_of, widths}
use Rattle.writer.proofs.TripElement.{sum_split}

-- the bits of the pieces of one kind, and their lengths
unfoldable pub kept_bits : ℕ → List Piece → List Bool
kept_bits kind [] = []
kept_bits kind (p ∷ ps) = cond (eqb p.kind kind) p.bits [] ++ kept_bits kind ps

unfoldable pub kept_widths : ℕ → List Piece → List ℕ
kept_widths kind [] = []
kept_widths kind (p ∷ ps) = cond (eqb p.kind kind) (length p.bits ∷ []) [] ++ kept_widths kind ps

-- those of the items are those of the pieces
pub contents_kept : (kind : ℕ) (s : List ℕ) (ps : List Piece) (front : List Bool) → unpack s ≡ front ++ bits_in ps
    → contents_of kind s (items_at (length front) ps) ≡ kept_bits kind ps
unfolding contents_of items_at kept_bits bits_in
contents_kept kind s [] front e = refl
contents_kept kind s (p ∷ ps) front e =
    let b = p.bits in
    let h : take (length b) (drop (length front) (unpack s))
    ≡ b = rw (e, drop-append_seam) (take-append_seam b (bits_in ps)) in
    let l : length front + length b ≡ length (front ++ b) = sym (length-append front b) in
    let f : unpack s ≡ (front ++ b) ++ bits_in ps = e ∙ sym (append_assoc front b (bits_in ps)) in
    rw (h, l, contents_kept kind s ps (front ++ b) f)

pub widths_kept : (kind : ℕ) (ps : List Piece) (at : ℕ) → widths_of kind (items_at at ps) ≡ kept_widths kind ps
unfolding widths_of items_at kept_widths
widths_kept kind [] at = refl
widths_kept kind (p ∷ ps) at = rw (widths_kept kind ps (at + length p.bits))

module _ (kind : ℕ) where
  pub kept_append : (ps qs : List Piece) → kept_bits kind (ps ++ qs) ≡ kept_bits kind ps ++ kept_bits kind qs
  unfolding kept_bits
  kept_append [] qs = refl
  kept_append (p ∷ ps) qs = rw (kept_append ps qs, append_assoc)

  pub kept_widths_append : (ps qs : List Piece) → kept_widths kind (ps ++ qs) ≡ kept_widths kind ps ++ kept_widths kind qs
  unfolding kept_widths
  kept_widths_append [] qs = refl
  kept_widths_append (p ∷ ps) qs = rw (kept_widths_append ps qs, append_assoc)

payload_kept : (k i : ℕ) (ns payload : List ℕ)
    → kept_bits kind_p (payload_pieces i k ns payload) ≡ unpack (take (sum_of k ns) payload)
unfolding kept_bits payload_pieces sum_of unpack
payload_kept zero i ns payload = refl
payload_kept (suc k) i ns payload =
    rw (payload_kept k (i + 1) (drop 1 ns) (drop (get_or ns 0 0) payload))
    (sym (unpack_split (get_or ns 0 0) (sum_of k (drop 1 ns)) payload))

payload_widths : (k i : ℕ) (ns payload : List ℕ) → sum_of k ns ≤ length payload
    → kept_widths kind_p (payload_pieces i k ns payload) ≡ widths k ns
unfolding kept_widths payload_pieces sum_of widths
payload_widths zero i ns payload l = refl
payload_widths (suc k) i ns payload l =
    let n = get_or ns 0 0 in
    rw (
      length_first payload n (omega arith),
      payload_widths k (i + 1) (drop 1 ns) (drop n payload) (omega (arith, length-drop n payload)),
    )

-- no payload is of another kind
payload_none : (kind : ℕ) → eqb kind_p kind ≡ false → (k i : ℕ) (ns payload : List ℕ)
    → kept_bits kind (payload_pieces i k ns payload) ≡ []
unfolding kept_bits payload_pieces
payload_none kind e zero i ns payload = refl
payload_none kind e (suc k) i ns payload = rw e (payload_none kind e k (i + 1) (drop 1 ns) (drop (get_or ns 0 0) payload))

-- two parts of the widths
widths_split : (a b : ℕ) (ns : List ℕ) → widths (a + b) ns ≡ widths a ns ++ widths b (drop a ns)
unfolding widths
widths_split zero b ns = let e : 0 + b ≡ b = omega arith in rw e
widths_split (suc a) b ns =
    let e : suc a + b ≡ suc (a + b) = omega arith in
    let d : drop a (drop 1 ns) ≡ drop (suc a) ns = drop-drop a 1 ns ∙ (let q : 1 + a ≡ suc a = omega arith in rw q) in
    rw (e, widths_split a b (drop 1 ns), d)

module _ (ss : List Stream) where
  pub slots_kept : (n : ℕ) (ns payload : List ℕ)
      → kept_bits kind_p (subframe_pieces n ss ns payload) ≡ unpack (take (sum_of (n * length ss) ns) payload)
  unfolding kept_bits subframe_pieces sum_of unpack
  slots_kept zero ns payload = let e : 0 * length ss ≡ 0 = omega arith in rw e
  slots_kept (suc n) ns payload =
      let k = length ss in
      let e : suc n * k ≡ k + n * k = omega arith in
      rw (
        kept_append kind_p (payload_pieces 0 k ns payload) (subframe_pieces n ss (drop k ns) (drop (sum_of k ns) payload)),
        payload_kept k 0 ns payload,
        slots_kept n (drop k ns) (drop (sum_of k ns) payload),
        e,
        sum_split k (n * k) ns,
      )
      (sym (unpack_split (sum_of k ns) (sum_of (n * k) (drop k ns)) payload))

  pub slots_widths : (n : ℕ) (ns payload : List ℕ) → sum_of (n * length ss) ns ≤ length payload
      → kept_widths kind_p (subframe_pieces n ss ns payload) ≡ widths (n * length ss) ns
  unfolding kept_widths subframe_pieces widths
  slots_widths zero ns payload l = let e : 0 * length ss ≡ 0 = omega arith in rw e
  slots_widths (suc n) ns payload l =
      let k = length ss in
      let e : suc n * k ≡ k + n * k = omega arith in
      let q : sum_of (suc n * k) ns ≡ sum_of k ns + sum_of (n * k) (drop k ns) = rw e (sum_split k (n * k) ns) in
      let d : length (drop (sum_of k ns) payload) ≡ length payload - sum_of k ns = length-drop (sum_of k ns) payload in
      rw (
        kept_widths_append kind_p (payload_pieces 0 k ns payload)
            (subframe_pieces n ss (drop k ns) (drop (sum_of k ns) payload)),
        payload_widths k 0 ns payload (omega (arith, q)),
        slots_widths n (drop k ns) (drop (sum_of k ns) payload) (omega (arith, q, d)),
        e,
        widths_split k (n * k) ns,
      )

  pub slots_none : (kind : ℕ) → eqb kind_l kind ≡ false → eqb kind_p kind ≡ false → (n : ℕ) (ns payload : List ℕ)
      → kept_bits kind (subframe_pieces n ss ns payload) ≡ []
  unfolding kept_bits subframe_pieces
  slots_none kind l p zero ns payload = refl
  slots_none kind l p (suc n) ns payload =
      let k = length ss in
      rw (
        l,
        kept_append kind (payload_pieces 0 k ns payload) (subframe_pieces n ss (drop k ns) (drop (sum_of k ns) payload)),
        payload_none kind p k 0 ns payload,
        slots_none kind l p n (drop k ns) (drop (sum_of k ns) payload),
      )
