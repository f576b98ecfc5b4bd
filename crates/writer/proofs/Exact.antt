-- When `write` writes, and when it gives each refusal.
use mathlib.Core.Path.{◌≡◌, refl, sym, ap, ◌∙◌}
use mathlib.Core.Bool.{Bool, true, false}
use mathlib.Core.Logic.{◌⊎◌, inl, inr}
use mathlib.Core.List.{List, [], ◌∷◌}
use Prim.Native.Nat.{ℕ, zero, suc, ◌+◌, ◌*◌, ◌≤◌, ◌<◌}
use native.Mathlib.Nat.{zero-add, zero-mul, suc-mul}
use native.Mathlib.Omega.{arith}
use borrow.Author.Tests.{eqb-true, ltb-true, ltb-false}
use lib.Dec.{eqb, ltb}
use lib.ListN.{length, get_or, drop}
use lib.Seq.{get_or-drop}
use Rattle.kernel.specs.Bits.{bit}
use Rattle.kernel.proofs.Tests.{both, either, cond_says}
use Rattle.records.specs.declared.Stream.{Stream}
use Rattle.records.specs.Blank.{no_stream}
use Rattle.records.specs.Valid.{valid_of}
use Rattle.element.specs.Mux.{streams_of}
use Rattle.std.specs.Prelude.{Result, Ok, Err}
use Rattle.kernel.specs.declared.Refusal.{Refusal}
use Rattle.writer.specs.Written.{Sent, size_of}
use Rattle.writer.specs.Write.{slot_fits, row_fits, slots_fit, fits, written_of}
use Rattle.writer.specs.Claims.{RightSizes, RefusedExactly}
use Rattle.writer.proofs.Whole.{fits_are}
use Rattle.writer.proofs.Answers.{right_fits, next_slot, written_16, written_17, written_18, written_19}

-- ---- slots that 17 does not refuse have their sizes

slot_right : (s : Stream) (n : ℕ) → slot_fits s n ≡ true → (s.kind ≡ 0) ⊎ (n ≡ s.fixed + 20)
slot_right s n h = go (eqb s.kind 0) refl
  where
    go : (t : Bool) → eqb s.kind 0 ≡ t → (s.kind ≡ 0) ⊎ (n ≡ s.fixed + 20)
    go true e = inl (eqb-true s.kind 0 e)
    go false e = inr (eqb-true n (s.fixed + 20) (either (eqb s.kind 0) (eqb n (s.fixed + 20)) h e))

row_right : (ss : List Stream) (ns : List ℕ) → row_fits ss ns ≡ true → (i : ℕ) → i < length ss
    → slot_fits (get_or ss i no_stream) (get_or ns i 0) ≡ true
unfolding row_fits
row_right [] ns h i l = absurd (omega arith)
row_right (s ∷ ss) ns h zero l = (both (slot_fits s (get_or ns 0 0)) (row_fits ss (drop 1 ns)) h).0
row_right (s ∷ ss) ns h (suc i) l =
    rw (next_slot ns i) at (row_right ss (drop 1 ns) (both (slot_fits s (get_or ns 0 0)) (row_fits ss (drop 1 ns)) h).1 i
    (omega arith))

slots_right : (n : ℕ) (ss : List Stream) (ns : List ℕ) → slots_fit n ss ns ≡ true
    → (j i : ℕ) → j < n → i < length ss → slot_fits (get_or ss i no_stream) (get_or ns (j * length ss + i) 0) ≡ true
unfolding slots_fit
slots_right zero ss ns h j i k l = absurd (omega arith)
slots_right (suc n) ss ns h zero i k l =
    let e : 0 * length ss + i ≡ i = rw (zero-mul (length ss)) (zero-add i) in
    rw e (row_right ss ns (both (row_fits ss ns) (slots_fit n ss (drop (length ss) ns)) h).0 i l)
slots_right (suc n) ss ns h (suc j) i k l =
    let e : length ss + (j * length ss + i) ≡ suc j * length ss + i = rw (suc-mul j (length ss)) (omega arith) in
    let b =
    slots_right n ss (drop (length ss) ns) (both (row_fits ss ns) (slots_fit n ss (drop (length ss) ns)) h).1 j i
    (omega arith) l in
    rw (get_or-drop (length ss) ns (j * length ss + i) 0, e) at b

pub fits_right : (w : Sent) → fits w ≡ true → RightSizes w
fits_right w h =
    let f = fits_are w h in
    let ss = streams_of w.config in
    record {
      number = f.number;
      slots = λ j i k l. slot_right (get_or ss i no_stream) (get_or w.lengths (j * length ss + i) 0)
          (slots_right (w.config.subframes + 1) ss w.lengths f.slots j i (omega arith) l);
      payloads = f.whole;
      others = f.enough;
    }

-- ---- the tests, in their order

fits_wrong : (w : Sent) → fits w ≡ false → ¬ RightSizes w
fits_wrong w h r = let z : bit true ≡ bit false = ap bit (sym (right_fits w r) ∙ h) in omega arith

wrong_fits : (w : Sent) → ¬ RightSizes w → fits w ≡ false
wrong_fits w n = go (fits w) refl
  where
    go : (t : Bool) → fits w ≡ t → t ≡ false
    go true e = absurd (n (fits_right w e))
    go false e = refl

module _ (w : Sent) (room : ℕ) where
  -- what an answer says
  abbrev Says : Result ℕ Refusal → Type 0
  Says (Ok n) = Unit {0}
  Says (Err x) =
      (x.number ≡ 16 → valid_of w.config ≡ false)
      × (x.number ≡ 17 → (valid_of w.config ≡ true) × (¬ RightSizes w))
      × (x.number ≡ 18 → (valid_of w.config ≡ true) × RightSizes w × (8191 < size_of w))
      × (x.number ≡ 19 → (valid_of w.config ≡ true) × RightSizes w × (size_of w ≤ 8191) × (room < size_of w))

  answer_says : Says (written_of w room)
  answer_says =
      cond_says Says (valid_of w.config) _ _
      (λ v. cond_says Says (fits w) _ _
      (λ f. cond_says Says (ltb 8191 (size_of w)) _ _
      (λ l. (
        λ e. absurd (omega arith),
        λ e.
            absurd (omega arith),
        λ e. (v, fits_right w f, ltb-true 8191 (size_of w) l),
        λ e. absurd (omega arith),
      ))
      (λ l. cond_says Says (ltb room (size_of w)) _ _
      (λ r. (
        λ e. absurd (omega arith),
        λ e. absurd (omega arith),
        λ e.
            absurd (omega arith),
        λ e. (v, fits_right w f, ltb-false 8191 (size_of w) l, ltb-true room (size_of w) r),
      ))
      (λ r. tt)))
      (λ f. (
        λ e. absurd (omega arith),
        λ e. (v, fits_wrong w f),
        λ e. absurd (omega arith),
        λ e.
            absurd (omega arith),
      )))
      (λ v. (λ e. v, λ e. absurd (omega arith), λ e. absurd (omega arith), λ e. absurd (omega arith)))

  pub refused_exactly : RefusedExactly w room
  refused_exactly = record {
    for_16 = record { then = λ e. (rw e at answer_says).0 refl; when = λ v. sym (written_16 w room v) };
    for_17 =
        record { then = λ e. (rw e at answer_says).1 refl; when = λ (v, n). sym (written_17 w room v (wrong_fits w n)) };
    for_18 =
        record {
          then = λ e. (rw e at answer_says).2 refl;
          when = λ (v, r, l).
              sym (written_18 w room v (right_fits w r) l);
        };
    for_19 =
        record {
          then = λ e. (rw e at answer_says).3 refl;
          when = λ (v, r, l, k).
              sym (written_19 w room v (right_fits w r) l k);
        };
  }
