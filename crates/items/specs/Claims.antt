-- What is claimed of a map that is read back. proofs/Theorems.antt has the theorem of each.
use Rattle.std.specs.Prelude.{◌≡◌, List, ◌++◌, ℕ, length}
use Rattle.kernel.specs.Element.{Item}
use Rattle.element.specs.Reply.{numbers}
use Rattle.items.specs.Items.{items_from, items_of}

-- the items that were stored come back, whatever stands behind them
abbrev pub StoredComesBack : Type 0
StoredComesBack = (its : List Item) (rest : List ℕ) → items_from (numbers its ++ rest) 0 (length its) ≡ items_of its
