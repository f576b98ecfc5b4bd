-- Laws of a number's figures: their length, what they say, and a turn of the loop that stores them from the last on.
use mathlib.Core.Path.{◌≡◌, refl, ◌∙◌}
use mathlib.Core.Bool.{Bool, true, false, cond}
use mathlib.Core.List.{List, [], ◌∷◌, ◌++◌}
use Prim.Native.Nat.{ℕ, zero, suc, ◌+◌, ◌*◌, ◌-◌, ◌/◌, ◌^◌, ◌≤◌, ◌<◌}
use native.Mathlib.Nat.{pow-suc}
use native.Mathlib.Numerals.{add-one}
use native.Mathlib.Omega.{arith}
use lib.Dec.{eqb}
use lib.ListN.{length, set, length-append}
use lib.Seq.{sets}
use borrow.Author.Tests.{eqb-true, ne_eqb}
use Rattle.kernel.proofs.Lists.{sets_last}
use Rattle.text.specs.Text.{digit, digit_or_blank, figures, number}
use Rattle.text.specs.Claims.{said_after}

pub length_figures : (w n : ℕ) → length (figures w n) ≡ w
unfolding figures
length_figures zero n = refl
length_figures (suc w) n = simp (length-append, length_figures w (n / 10)) (add-one w)

pub length-number : (w n : ℕ) → 1 ≤ w → length (number w n) ≡ w
length-number w n h = simp (length-append, length_figures (w - 1) (n / 10)) (omega arith)

-- one letter more
said_more : (xs : List ℕ) (v c : ℕ) → said_after v (xs ++ (c ∷ [])) ≡ said_after (said_after v xs) (c ∷ [])
unfolding said_after
said_more [] v c = refl
said_more (x ∷ xs) v c = said_more xs (cond (eqb x 32) v (10 * v + (x - 48))) c

-- the last digit, behind what is left of the number without it
digit_said : (n : ℕ) → said_after (n / 10) (digit n ∷ []) ≡ n
unfolding said_after
digit_said n = rw (ne_eqb (digit n) 32 (λ e. omega arith)) (omega arith)

last_said : (n : ℕ) (t : Bool) → eqb n 0 ≡ t → said_after (n / 10) (cond t 32 (digit n) ∷ []) ≡ n
unfolding said_after
last_said n true e = omega (arith, eqb-true n 0 e)
last_said n false e = digit_said n

tenth : (w n : ℕ) → n < 10 ^ suc w → n / 10 < 10 ^ w
tenth w n h = omega (arith, pow-suc 10 w)

figures_said : (w n : ℕ) → n < 10 ^ w → said_after 0 (figures w n) ≡ n
unfolding figures said_after
figures_said zero n h = omega arith
figures_said (suc w) n h =
    said_more (figures w (n / 10)) 0 _ ∙ rw (figures_said w (n / 10) (tenth w n h)) (last_said n (eqb n 0) refl)

pub number_said : (w n : ℕ) → n < 10 ^ w → said_after 0 (number w n) ≡ n
unfolding figures said_after
number_said zero n h = let e : n ≡ 0 = omega arith in rw e
number_said (suc w) n h =
    let e : suc w - 1 ≡ w = omega arith in
    said_more (figures (suc w - 1) (n / 10)) 0 _ ∙ rw (e, figures_said w (n / 10) (tenth w n h)) (digit_said n)

pub figures_step : (l r : List ℕ) (at k m v : ℕ) → v ≡ digit_or_blank m → sets l at (figures (k + 1) m) ≡ r
    → sets (set l (at + k) v) at (figures k (m / 10)) ≡ r
unfolding figures
figures_step l r at k m v d e =
    sets_last (figures k (m / 10)) l at (at + k) v (omega (arith, length_figures k (m / 10)))
    ∙ rw d (rw (add-one k) at e)

pub figures_none : (l : List ℕ) (at k m : ℕ) → k ≡ 0 → sets l at (figures k m) ≡ l
unfolding figures
figures_none l at k m e = rw e

pub ruleset laying_figures = (figures_step, figures_none, length_figures)
