-- What `write` answers, by its tests.
use mathlib.Core.Path.{◌≡◌, refl, sym, ◌∙◌, ap}
use mathlib.Core.Bool.{Bool, true, false, cond}
use mathlib.Core.Logic.{◌⊎◌, inl, inr}
use mathlib.Core.List.{List, [], ◌∷◌, ◌++◌, append-nil, append_assoc}
use Prim.Native.Nat.{ℕ, zero, suc, ◌+◌, ◌-◌, ◌*◌, ◌/◌, ◌%◌, ◌≤◌, ◌<◌}
use native.Mathlib.Nat.{zero-add, zero-mul, suc-mul, mul-le-mul_left}
use native.Mathlib.Omega.{arith}
use borrow.Author.Tests.{eq-eqb, lt-ltb, le-ltb}
use lib.Dec.{eqb}
use lib.ListN.{length, get_or, drop, length-append}
use lib.Seq.{get_or-drop, length-take-le}
use Rattle.kernel.specs.Answer.{unread}
use Rattle.kernel.specs.Bits.{bits_of}
use Rattle.kernel.proofs.Tests.{or_right}
use Rattle.records.specs.declared.Stream.{Stream}
use Rattle.records.specs.declared.Record.{Record}
use Rattle.records.specs.Blank.{no_stream}
use Rattle.records.specs.Table.{streams_in}
use Rattle.records.specs.Valid.{valid_of}
use Rattle.records.proofs.Apart.{record_ok}
use Rattle.element.specs.Mux.{streams_of}
use Rattle.std.specs.Prelude.{Ok, Err}
use Rattle.writer.specs.Written.{Piece, bits_in, sum_of, subframe_pieces, config_pieces, Sent, content_pieces}
use Rattle.writer.specs.Written.{other_pieces, alignment, element_bits, size_of}
use Rattle.writer.specs.Write.{slot_fits, row_fits, slots_fit, other_bytes, fits, written_of}
use Rattle.writer.specs.Sizes.{length_bytes, front_bits}
use Rattle.writer.specs.Claims.{RightSizes}
use Rattle.writer.proofs.Pieces.{bits_append}
use Rattle.writer.proofs.Whole.{fits_are, content_length, bits_length}

module _ (w : Sent) (room : ℕ) where
  pub written_16 : valid_of w.config ≡ false → Err (unread 16) ≡ written_of w room
  written_16 e = rw e

  pub written_17 : valid_of w.config ≡ true → fits w ≡ false → Err (unread 17) ≡ written_of w room
  written_17 e f = rw (e, f)

  pub written_18 : valid_of w.config ≡ true → fits w ≡ true → 8191 < size_of w → Err (unread 18) ≡ written_of w room
  written_18 e f h = rw (e, f, lt-ltb 8191 (size_of w) h)

  pub written_19 : valid_of w.config ≡ true → fits w ≡ true → size_of w ≤ 8191 → room < size_of w
      → Err (unread 19) ≡ written_of w room
  written_19 e f h k = rw (e, f, le-ltb 8191 (size_of w) h, lt-ltb room (size_of w) k)

  pub written_done : valid_of w.config ≡ true → fits w ≡ true → size_of w ≤ 8191 → size_of w ≤ room
      → Ok (size_of w) ≡ written_of w room
  written_done e f h k = rw (e, f, le-ltb 8191 (size_of w) h, le-ltb room (size_of w) k)

-- ---- what 17 does not refuse

slot_fits_law : (s : Stream) (n : ℕ) → (s.kind ≡ 0) ⊎ (n ≡ s.fixed + 20) → slot_fits s n ≡ true
slot_fits_law s n (inl e) = rw (eq-eqb s.kind 0 e)
slot_fits_law s n (inr e) = or_right (eqb s.kind 0) (eqb n (s.fixed + 20)) (eq-eqb n (s.fixed + 20) e)

pub next_slot : (ns : List ℕ) (i : ℕ) → get_or (drop 1 ns) i 0 ≡ get_or ns (suc i) 0
next_slot [] i = refl
next_slot (n ∷ ns) i = refl

row_fits_law : (ss : List Stream) (ns : List ℕ)
    → ((i : ℕ) → i < length ss → slot_fits (get_or ss i no_stream) (get_or ns i 0) ≡ true) → row_fits ss ns ≡ true
unfolding row_fits
row_fits_law [] ns h = refl
row_fits_law (s ∷ ss) ns h =
    rw (h 0 (omega arith), row_fits_law ss (drop 1 ns) (λ i l. rw (next_slot ns i) (h (suc i) (omega (arith, l)))))

slots_fit_law : (n : ℕ) (ss : List Stream) (ns : List ℕ)
    → ((j i : ℕ) → j < n → i < length ss → slot_fits (get_or ss i no_stream) (get_or ns (j * length ss + i) 0) ≡ true)
    → slots_fit n ss ns ≡ true
unfolding slots_fit
slots_fit_law zero ss ns h = refl
slots_fit_law (suc n) ss ns h =
    let k = length ss in
    let here : (i : ℕ) → 0 * k + i ≡ i = λ i. rw (zero-mul k) (zero-add i) in
    let behind : (j i : ℕ) → k + (j * k + i) ≡ suc j * k + i = λ j i. rw (suc-mul j k) (omega arith) in
    let a = row_fits_law ss ns (λ i l. rw (here i) at (h 0 i (omega arith) l)) in
    let b =
    slots_fit_law n ss (drop k ns) (λ j i m l.
    rw (get_or-drop k ns (j * k + i) 0, behind j i) (h (suc j) i (omega (arith, m)) l)) in
    rw (a, b)

pub right_fits : (w : Sent) → RightSizes w → fits w ≡ true
right_fits w r =
    let ss = streams_of w.config in
    let a = eq-eqb (length w.lengths) ((w.config.subframes + 1) * length ss) r.number in
    let b =
    slots_fit_law (w.config.subframes + 1) ss w.lengths
    (λ j i k l. slot_fits_law (get_or ss i no_stream) (get_or w.lengths (j * length ss + i) 0)
    (r.slots j i (omega (arith, k)) l)) in
    rw (
      a,
      b,
      eq-eqb (length w.payload) (sum_of (length w.lengths) w.lengths) r.payloads,
      eq-eqb
          (length w.other) (other_bytes w.config) r.others,
    )

-- as many streams as the record has
pub streams_count : (r : Record) {x : ℕ} → valid_of r ≡ true → length r.streams ≡ 16
    → x ≡ streams_in r.layers r.programs 16 → x ≡ length (streams_of r)
streams_count r v l e =
    e ∙ sym (length-take-le (streams_in r.layers r.programs 16) r.streams
    (omega (arith, l, (record_ok r v).count)))

-- ---- how large the element is

-- other data that is not there has no bits
bits_are : (r : Record) → valid_of r ≡ true → (b : Bool) → eqb r.other 1 ≡ b → cond b r.bits 0 ≡ r.bits
bits_are r v true e = refl
bits_are r v false e = sym ((record_ok r v).bits e)

pub size_is : (w : Sent) (lengths : ℕ) → valid_of w.config ≡ true → fits w ≡ true
    → lengths ≡ length_bytes (w.config.subframes + 1) (streams_of w.config) w.lengths
    → (length (front_bits w.send w.config) + (8 * lengths + 8 * length w.payload) + w.config.bits + 7) / 8
    ≡ size_of w
size_is w lengths v h e =
    let f = fits_are w h in
    omega (arith, e, content_length w f, bits_length w f, bits_are w.config v (eqb w.config.other 1) refl)

-- ---- the bits of its parts, one after the other

three_length : (f s o : List Bool) {c : ℕ} → c ≡ 0 + length f + length s + length o → c ≡ length (f ++ (s ++ o))
three_length f s o e = simp (length-append, length-append) (omega arith)

one_bits : (p : Piece) → bits_in (p ∷ []) ≡ p.bits
unfolding bits_in
one_bits p = append-nil p.bits

module _ (w : Sent) where
  abbrev pub slots : List Piece
  slots = subframe_pieces (w.config.subframes + 1) (streams_of w.config) w.lengths w.payload

  abbrev pub others : List Piece
  others = other_pieces w.config w.other

  content_bits : front_bits w.send w.config ++ (bits_in slots ++ bits_in others) ≡ bits_in (content_pieces w)
  unfolding bits_in
  content_bits =
      rw (bits_append (config_pieces w.send w.config) (slots ++ others), bits_append slots others, append_assoc)

  last_bits : (c : ℕ) → c ≡ length (bits_in (content_pieces w))
      → bits_in (content_pieces w) ++ bits_of ((8 - c % 8) % 8) 0 ≡ element_bits w
  last_bits c k =
      let n = length (bits_in (content_pieces w)) in
      rw k (sym (bits_append (content_pieces w) (alignment n ∷ [])
      ∙ ap (λ (x : List Bool). bits_in (content_pieces w) ++ x) (one_bits (alignment n))))

  pub element_bits_law : (c : ℕ) → c
      ≡ 0 + length (front_bits w.send w.config) + length (bits_in slots) + length (bits_in others)
      → front_bits w.send w.config ++ (bits_in slots ++ (bits_in others ++ bits_of ((8 - c % 8) % 8) 0))
      ≡ element_bits w
  element_bits_law c e =
      let k : c ≡ length (bits_in (content_pieces w)) =
      three_length (front_bits w.send w.config) (bits_in slots) (bits_in others) e ∙ ap length content_bits in
      let f = front_bits w.send w.config in
      let a = bits_of ((8 - c % 8) % 8) 0 in
      let p : f ++ (bits_in slots ++ (bits_in others ++ a)) ≡ bits_in (content_pieces w) ++ a =
      ap (λ (x : List Bool). f ++ x) (sym (append_assoc (bits_in slots) (bits_in others) a))
      ∙ sym (append_assoc f (bits_in slots ++ bits_in others) a) ∙ ap (λ (x : List Bool). x ++ a) content_bits in
      p ∙ last_bits c k

-- ---- what was measured

pub few_slots : (n k : ℕ) → n ≤ 64 → k ≤ 16 → n * k ≤ 1024
few_slots n k h l = let e : n * k ≤ n * 16 = mul-le-mul_left n l in omega (arith, e)
