-- The bits of each part, by its test.
use mathlib.Core.Path.{◌≡◌}
use mathlib.Core.Bool.{Bool}
use mathlib.Core.List.{List, [], ◌++◌, append-nil}
use Rattle.kernel.proofs.Puts.{puts}

pub nothing_more : (a : List Bool) → a ++ [] ≡ a
nothing_more a = append-nil a

pub ruleset parts = (puts, nothing_more)
