-- The numbers of items: four each, one item after the other, and the items that they show.
use mathlib.Core.Path.{◌≡◌, refl, sym}
use mathlib.Core.List.{List, [], ◌∷◌, ◌++◌}
use Prim.Native.Nat.{ℕ, ◌*◌}
use native.Mathlib.Omega.{arith}
use lib.ListN.{length}
use Rattle.kernel.specs.Element.{Item, item}
use Rattle.element.specs.Reply.{numbers}
use Rattle.element.specs.Left.{shown}
use Rattle.element.specs.Claims.{EachByKind}

pub length_numbers : (its : List Item) → length (numbers its) ≡ 4 * length its
unfolding numbers
length_numbers [] = refl
length_numbers (it ∷ its) = omega (arith, length_numbers its)

pub numbers_append : (its js : List Item) → numbers (its ++ js) ≡ numbers its ++ numbers js
unfolding numbers
numbers_append [] js = refl
numbers_append (it ∷ its) js = rw (numbers_append its js)

pub shown_numbers : (its : List Item) (more : List ℕ) → EachByKind its → shown (length its) (numbers its ++ more) ≡ its
unfolding shown numbers EachByKind
shown_numbers [] more h = refl
shown_numbers (it ∷ its) more h =
    let c = sym h.0 in
    let e = shown_numbers its more h.1 in
    λ i. item (c i) it.kind it.stream it.first it.width ∷ e i
