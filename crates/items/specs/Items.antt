-- The items of a map, read back from its numbers.
use Rattle.std.specs.Prelude.{cond, List, [], ◌∷◌, ℕ, zero, suc, ◌+◌, ◌*◌, ◌/◌, ltb, length, get_or}
use Rattle.kernel.specs.Element as kernel
use Rattle.items.specs.declared.Item.{Item}

-- what is answered for an item that is not there: kind 0
abbrev pub no_item : Item
no_item = record { kind = 0; stream = 0; first = 0; width = 0 }

-- item i: the four numbers from place 4i on; none where they do not all stand in the map
abbrev pub item_at : List ℕ → ℕ → Item
item_at map i = cond (ltb i (length map / 4))
    (record {
      kind = get_or map (4 * i) 0;
      stream = get_or map (4 * i + 1) 0;
      first = get_or map (4 * i + 2) 0;
      width = get_or map (4 * i + 3) 0;
    })
    no_item

-- k items of a map, from item i on
unfoldable pub items_from : List ℕ → ℕ → ℕ → List Item
items_from map i zero = []
items_from map i (suc k) = item_at map i ∷ items_from map (i + 1) k

-- an item of the definition of an element, in the words of code
abbrev pub item_of : kernel.Item → Item
item_of it = record { kind = it.kind; stream = it.stream; first = it.first; width = it.width }

-- and all items of an element
unfoldable pub items_of : List kernel.Item → List Item
items_of [] = []
items_of (it ∷ its) = item_of it ∷ items_of its
