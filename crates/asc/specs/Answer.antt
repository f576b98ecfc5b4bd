-- The types that code carries, by where they stand.
use Rattle.std.specs.Prelude.{Bool, true, false, ℕ}
use Rattle.asc.specs.Asc.{is_core, is_front}

-- the types carried: under type 5 or 29, or in front
unfoldable pub carried_if : Bool → ℕ → Bool
carried_if true = is_core
carried_if false = is_front
