-- The bits of an item copied out of its element.
use Rattle.std.specs.Prelude.{Bool, cond, ◌&&◌, List, [], ℕ, ◌+◌, ◌-◌, ◌*◌, ◌%◌, leb, length, take, drop}
use Rattle.kernel.specs.Bits.{bits_of, unpack, ◌⧺◌}
use Rattle.items.specs.declared.Item.{Item}

-- width bits of an element from the first on
abbrev pub bits_from : List ℕ → ℕ → ℕ → List Bool
bits_from el first width = take width (drop first (unpack el))

-- and zeros behind them up to a byte
abbrev pub padded : List ℕ → ℕ → ℕ → List Bool
padded el first width = bits_from el first width ⧺ bits_of ((8 - width % 8) % 8) 0

-- nothing of an item that does not lie in an element
abbrev pub copied : List ℕ → Item → List Bool
copied el it =
    cond (leb (length el) 8191 && leb (it.first + it.width) (8 * length el)) (padded el it.first it.width) []
