-- Laws of a frame that is written: its tests.
use mathlib.Core.Path.{◌≡◌, refl, sym}
use Rattle.std.specs.Prelude.{Result, Ok, Err}
use mathlib.Core.Bool.{Bool, true, false, cond, ◌||◌}
use mathlib.Core.Logic.{◌⊎◌, inl, inr}
use mathlib.Core.List.{List, [], ◌∷◌}
use Prim.Native.Nat.{ℕ, ◌+◌, ◌/◌, ◌%◌, ◌≤◌, ◌<◌}
use native.Mathlib.Omega.{arith}
use borrow.Author.Tests.{eq-eqb, ne_eqb, lt-ltb, le-ltb, eqb-true, eqb-false, ltb-true, ltb-false}
use lib.Dec.{eqb, ltb}
use lib.ListN.{length, get_or}
use Rattle.kernel.specs.declared.Refusal.{Refusal}
use Rattle.sync.specs.Sync.{framed_of}
use Rattle.sync.specs.Claims.{RefusedExactly}
use Rattle.kernel.specs.Answer.{unread}
use Rattle.kernel.specs.Lists.{Stored}
use Rattle.kernel.proofs.Lists.{stored_then, stored_front}
use Rattle.sync.specs.Promises.{FramePromise}

module _ (el : List ℕ) (room : ℕ) where
  pub no_byte_law : length el ≡ 0 → framed_of el room ≡ Err (unread 2)
  no_byte_law e = rw (eq-eqb (length el) 0 e)

  pub too_long : 8191 < length el → framed_of el room ≡ Err (unread 2)
  too_long h = rw (ne_eqb (length el) 0 (λ e. omega arith), lt-ltb 8191 (length el) h)

  pub no_room : 1 ≤ length el → length el ≤ 8191 → room < 3 + length el → framed_of el room ≡ Err (unread 19)
  no_room h k r = rw (ne_eqb (length el) 0 (λ e. omega arith), le-ltb 8191 (length el) k, lt-ltb room (3 + length el) r)

  pub with_room : 1 ≤ length el → length el ≤ 8191 → 3 + length el ≤ room → framed_of el room ≡ Ok (3 + length el)
  with_room h k r =
      rw (ne_eqb (length el) 0 (λ e. omega arith), le-ltb 8191 (length el) k, le-ltb room (3 + length el) r)

-- the mark, the length's two bytes behind its three ones, and the element, laid where there is room
pub frame_laid : {el out o₁ o₂ bs : List ℕ} {t n : ℕ}
    → Stored out 0 (0x56 ∷ get_or bs 0 0 ∷ get_or bs 1 0 ∷ []) o₁ t → Stored o₁ t el o₂ n
    → bs ≡ (0xE000 + length el) / 256 % 256 ∷ (0xE000 + length el) % 256 ∷ []
    → 1 ≤ length el → length el ≤ 8191 → 3 + length el ≤ length out → FramePromise el out (Ok n) o₂
frame_laid {el} {out} {n = n} p q e some few room =
    let s = stored_then p q in
    let k : n ≡ 3 + length el = omega (arith, s.next) in
    let high : (0xE000 + length el) / 256 % 256 ≡ 224 + length el / 256 = omega arith in
    let low : (0xE000 + length el) % 256 ≡ length el % 256 = omega arith in
    (rw k (sym (with_room el (length out) some few room)), rw (e, high, low) at (stored_front s (omega arith)))

-- what an answer of `frame` says of the element
abbrev pub Fits : List ℕ → ℕ → Result ℕ Refusal → Type 0
Fits el room (Ok n) = (n ≡ 3 + length el) × (1 ≤ length el) × (length el ≤ 8191) × (3 + length el ≤ room)
Fits el room (Err x) =
    ((x.number ≡ 2) × ((length el ≡ 0) ⊎ (8191 < length el)))
    ⊎ ((x.number ≡ 19) × (1 ≤ length el) × (length el ≤ 8191) × (room < 3 + length el))

module _ (el : List ℕ) (room : ℕ) where
  roomy : (b : Bool) → ltb room (3 + length el) ≡ b → 1 ≤ length el → length el ≤ 8191
      → Fits el room (cond b (Err (unread 19)) (Ok (3 + length el)))
  roomy true e h k = inr (refl, h, k, ltb-true room (3 + length el) e)
  roomy false e h k = (refl, h, k, ltb-false room (3 + length el) e)

  sized : (a b : Bool) → eqb (length el) 0 ≡ a → ltb 8191 (length el) ≡ b
      → Fits el room (cond (a || b) (Err (unread 2))
      (cond (ltb room (3 + length el)) (Err (unread 19)) (Ok (3 + length el))))
  sized true b e f = inl (refl, inl (eqb-true (length el) 0 e))
  sized false true e f = inl (refl, inr (ltb-true 8191 (length el) f))
  sized false false e f =
      let n : length el ≡ 0 → ⊥ = eqb-false (length el) 0 e in
      roomy (ltb room (3 + length el)) refl (omega (arith, n)) (ltb-false 8191 (length el) f)

  pub framed_fits : Fits el room (framed_of el room)
  framed_fits = sized (eqb (length el) 0) (ltb 8191 (length el)) refl refl

  -- a refusal by 2 was for the length, and one by 19 for the room
  length_refused : Fits el room (Err (unread 2)) → (length el ≡ 0) ⊎ (8191 < length el)
  length_refused (inl h) = h.1
  length_refused (inr h) = absurd (omega (arith, h.0))

  room_refused : Fits el room (Err (unread 19)) → (1 ≤ length el) × (length el ≤ 8191) × (room < 3 + length el)
  room_refused (inl h) = absurd (omega (arith, h.0))
  room_refused (inr h) = (h.1, h.2, h.3)

  refused_for_length : (length el ≡ 0) ⊎ (8191 < length el) → framed_of el room ≡ Err (unread 2)
  refused_for_length (inl e) = no_byte_law el room e
  refused_for_length (inr h) = too_long el room h

  pub refused_exactly : RefusedExactly el room
  refused_exactly = record {
    for_2 = record { then = λ e. length_refused (rw e at framed_fits); when = refused_for_length };
    for_19 =
        record { then = λ e. room_refused (rw e at framed_fits); when = λ h. no_room el room h.0 h.1 h.2 };
  }
