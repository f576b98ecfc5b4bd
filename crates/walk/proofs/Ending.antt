-- From what the walk behind the configuration tells to the verdict and the map of the whole.
use mathlib.Core.Path.{◌≡◌, refl, ap, sym, ◌∙◌}
use mathlib.Core.Bool.{Bool, true, false, cond}
use mathlib.Core.List.{List, [], ◌∷◌, ◌++◌}
use Prim.Native.Nat.{ℕ, ◌+◌, ◌*◌, ◌-◌, ◌≤◌}
use native.Mathlib.Omega.{arith}
use Rattle.std.proofs.Common.{Ok, Err}
use lib.ListN.{length, drop}
use lib.Seq.{sets}
use borrow.Author.Tests.{eq-eqb, ne_eqb}
use Rattle.kernel.specs.declared.Refusal.{Refusal}
use Rattle.kernel.specs.Reading.{refused_at}
use Rattle.kernel.specs.Element.{Item, Passage, came, fell, with_item}
use Rattle.kernel.proofs.Lists.{sets-append, sets_front}
use Rattle.element.specs.Reply.{numbers, accepts}
use Rattle.walk.specs.declared.Walked.{Walked}
use Rattle.walk.specs.Parts.{come, made, fronted, front_numbers, front_count, verdict_from, map_from}
use Rattle.element.proofs.Numbers.{length_numbers}

module _ (sent : Bool) (at k bits : ℕ) (map : List ℕ) where
  pub finish_refused : (x : Passage (Unit {0})) (z : Refusal) → come k x ≡ Err z
      → (Err z ≡ verdict_from sent bits (fronted sent at x)) × (map ≡ map_from map bits (fronted sent at x))
  unfolding with_item
  finish_refused (came a its p m) z e = cc
  finish_refused (fell r its) z e = go sent
    where
      q : z ≡ r.refusal
      q = cc

      go : (t : Bool) → (Err z ≡ verdict_from t bits (fronted t at (fell r its)))
          × (map ≡ map_from map bits (fronted t at (fell r its)))
      go true = (ap Err q, refl)
      go false = (ap Err q, refl)

  pub finish_over : (x : Passage (Unit {0})) (w : Walked) → come k x ≡ Ok w → (w.cursor.at ≡ bits → ⊥)
      → (Err (refused_at 15 w.cursor.at w.cursor.fields) ≡ verdict_from sent bits (fronted sent at x))
      × (map ≡ map_from map bits (fronted sent at x))
  unfolding with_item
  finish_over (fell r its) w e h = cc
  finish_over (came a its p m) w e h = go sent
    where
      v : record { items = k + length its; cursor = record { at = p; fields = m } } ≡ w
      v = cc

      q : p ≡ w.cursor.at
      q = ap (λ (y : Walked). y.cursor.at) v

      n : m ≡ w.cursor.fields
      n = ap (λ (y : Walked). y.cursor.fields) v

      go : (t : Bool) → (Err (refused_at 15 w.cursor.at w.cursor.fields) ≡ verdict_from t bits (fronted t at (came a its p m)))
          × (map ≡ map_from map bits (fronted t at (came a its p m)))
      go true = rw (q, n, ne_eqb w.cursor.at bits h) (refl, refl)
      go false = rw (q, n, ne_eqb w.cursor.at bits h) (refl, refl)

-- the items in front, and those of the rest
front_numbers_law : (sent : Bool) (at : ℕ) (its : List Item) (p m : ℕ) (a : Unit {0})
    → numbers (made (fronted sent at (came a its p m))) ≡ front_numbers sent at ++ numbers its
unfolding numbers with_item
front_numbers_law true at its p m a = refl
front_numbers_law false at its p m a = refl

front_length : (sent : Bool) (at : ℕ) (its : List Item) (p m : ℕ) (a : Unit {0})
    → length (made (fronted sent at (came a its p m))) ≡ front_count sent + length its
unfolding with_item
front_length true at its p m a = omega arith
front_length false at its p m a = omega arith

front_is : (sent : Bool) (at : ℕ) (its : List Item) (p m : ℕ) (a : Unit {0})
    → fronted sent at (came a its p m) ≡ came a (made (fronted sent at (came a its p m))) p m
unfolding with_item
front_is true at its p m a = refl
front_is false at its p m a = refl

length_front : (sent : Bool) (at : ℕ) → length (front_numbers sent at) ≡ 4 * front_count sent
length_front true at = refl
length_front false at = refl

module _ (sent : Bool) (at bits : ℕ) (map map₁ map₂ : List ℕ) where
  pub finish_done : (x : Passage (Unit {0})) (w : Walked) → come (front_count sent) x ≡ Ok w → w.cursor.at ≡ bits
      → 4 * w.items ≤ length map
      → map₁ ≡ sets map 0 (front_numbers sent at) → map₂ ≡ sets map₁ (4 * front_count sent) (numbers (made x))
      → (accepts w.items w.cursor.fields sent ≡ verdict_from sent bits (fronted sent at x))
      × (map₂ ≡ map_from map bits (fronted sent at x))
  finish_done (fell r its) w e h l u v = cc
  finish_done (came a its q n) w e h l u v =
      let y : record { items = front_count sent + length its; cursor = record { at = q; fields = n } } ≡ w = cc in
      let c : front_count sent + length its ≡ w.items = ap (λ (y : Walked). y.items) y in
      let d : q ≡ w.cursor.at = ap (λ (y : Walked). y.cursor.at) y in
      let f : n ≡ w.cursor.fields = ap (λ (y : Walked). y.cursor.fields) y in
      let its' = made (fronted sent at (came a its q n)) in
      let g = front_length sent at its q n a in
      let m = length_numbers its' in
      let t : map₂ ≡ numbers its' ++ drop (4 * length its') map =
      v ∙ ap (λ (z : List ℕ). sets z (4 * front_count sent) (numbers its)) u
      ∙ sets-append (front_numbers sent at) (numbers its) map 0 (4 * front_count sent) (omega (arith, length_front sent at))
      ∙ ap (sets map 0) (sym (front_numbers_law sent at its q n a))
      ∙ sets_front (numbers its') map (omega arith)
      ∙ ap (λ (z : ℕ). numbers its' ++ drop z map) m in
      rw (front_is sent at its q n a, eq-eqb q bits (d ∙ h)) (rw (g, c, f) refl, t)

pub front_stored : (sent : Bool) (at : ℕ) (map map₁ map₂ : List ℕ) → map₁ ≡ sets map 0 (1 ∷ 0 ∷ 0 ∷ 1 ∷ [])
    → map₂ ≡ cond sent (sets map₁ 4 (2 ∷ 0 ∷ 1 ∷ (at - 1) ∷ [])) map₁ → map₂ ≡ sets map 0 (front_numbers sent at)
front_stored true at map map₁ map₂ e f = f ∙ ap (λ (z : List ℕ). sets z 4 (2 ∷ 0 ∷ 1 ∷ (at - 1) ∷ [])) e
front_stored false at map map₁ map₂ e f = f ∙ e

pub few_front : (sent : Bool) → front_count sent ≤ 2
few_front true = omega arith
few_front false = omega arith

pub ruleset fronts = (front_stored, few_front)
