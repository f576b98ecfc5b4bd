-- Laws of the records of a map.
use mathlib.Core.Path.{◌≡◌, refl, ◌∙◌, ap}
use mathlib.Core.List.{List, [], ◌∷◌, ◌++◌}
use Prim.Native.Nat.{ℕ, zero, suc, ◌+◌, ◌-◌, ◌*◌, ◌<◌}
use native.Mathlib.Omega.{arith}
use lib.ListN.{length, length-append}
use Rattle.kernel.specs.Element as kernel
use Rattle.kernel.specs.Element.{Answer, accepted, rejected}
use Rattle.element.specs.Mux.{Applied}
use Rattle.element.specs.Reply.{numbers, verdict_of, map_after}
use Rattle.items.specs.declared.Item.{Item}
use Rattle.items.specs.Items.{item_at, items_from, items_of}
use Rattle.items.proofs.Theorems.{stored_comes_back}
use Rattle.listing_blocks.specs.Listing.{line_of, item_lines, listed}
use Rattle.listing_blocks.specs.Laid.{line_by, map_lines, verdict_lines}
use Rattle.std.proofs.lemmas.List.Edits.{sets}
use Rattle.kernel.proofs.Lists.{sets-append}
use Rattle.std.proofs.lemmas.Bool.Decides.{nat_tests}

module _ (number : ℕ) (map : List ℕ) where
  pub lines_turn : (items i : ℕ) → i < items
      → map_lines number map i (items - i)
      ≡ line_by number (item_at map i) ++ map_lines number map (i + 1) (items - (i + 1))
  unfolding map_lines
  lines_turn items i h = let e : items - i ≡ suc (items - (i + 1)) = omega arith in rw e

-- the records of items in the words of code
lines_by : ℕ → List Item → List ℕ
lines_by number [] = []
lines_by number (it ∷ its) = line_by number it ++ lines_by number its

lines_by_law : (number : ℕ) (map : List ℕ) (i k : ℕ) → map_lines number map i k ≡ lines_by number (items_from map i k)
unfolding map_lines lines_by items_from
lines_by_law number map i zero = refl
lines_by_law number map i (suc k) = rw (lines_by_law number map (i + 1) k)

lines_of : (number : ℕ) (its : List kernel.Item) → lines_by number (items_of its) ≡ item_lines number its
unfolding lines_by items_of item_lines
lines_of number [] = refl
lines_of number (it ∷ its) = rw (lines_of number its)

-- the records of the numbers stored for items are the items'
lines_are : (number : ℕ) (its : List kernel.Item) (rest : List ℕ)
    → map_lines number (numbers its ++ rest) 0 (length its) ≡ item_lines number its
lines_are number its rest = lines_by_law number _ 0 (length its) ∙ ap (lines_by number) (stored_comes_back its rest)
    ∙ lines_of number its

pub listed_is : (number : ℕ) (map : List ℕ) (x : Answer Applied)
    → verdict_lines number (verdict_of x) (map_after map x) ≡ listed number x
listed_is number map (accepted a its n) = lines_are number its _
listed_is number map (rejected r its) = refl

-- ---- laid over a list

pub line_long : (number letter stream first width : ℕ) → length (line_of number letter stream first width) ≡ 24
unfolding line_of
line_long number letter stream first width = refl

pub no_lines : (number : ℕ) (map : List ℕ) (i k : ℕ) → k ≡ 0 → map_lines number map i k ≡ []
unfolding map_lines
no_lines number map i k e = rw e

pub length_lines : (number : ℕ) (map : List ℕ) (i k : ℕ) → length (map_lines number map i k) ≡ 24 * k
unfolding map_lines
length_lines number map i zero = refl
length_lines number map i (suc k) = simp (length-append, length_lines number map (i + 1) k, line_long) (omega arith)

pub laid_then : (l : List ℕ) (i : ℕ) (a : List ℕ) (j : ℕ) (b : List ℕ) → j ≡ i + length a
    → sets (sets l i a) j b ≡ sets l i (a ++ b)
laid_then l i a j b h = sets-append a b l i j h

pub ruleset lines = (laid_then, line_long, length_lines, no_lines, lines_turn, nat_tests)
