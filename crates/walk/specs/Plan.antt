-- What a walk needs of a configuration, and the element that it tells of: what follows the configuration.
use Rattle.std.specs.Prelude.{List, map, ℕ, ◌*◌, ◌≤◌, Option, Some, None, is_some, unwrap_or, take}
use Rattle.kernel.specs.Reading.{Reading, give, ◌>>=◌}
use Rattle.kernel.specs.Element.{Element}
use Rattle.element.specs.Mux.{mux_slot_length_bytes, other_data, rest}
use Rattle.walk.specs.declared.Plan.{Plan}

-- the bits of a slot: so many where they are fixed, and else by length bytes
unfoldable pub slot_by : Option ℕ → Reading ℕ
slot_by (Some w) = give w
slot_by None = mux_slot_length_bytes >>= λ v. give (8 * v)

-- of several streams
abbrev pub slots_by : List (Option ℕ) → List (Reading ℕ)
slots_by slots = map slot_by slots

-- so many bits of other data, if there is any
abbrev pub other_by : Option ℕ → Element Unit
other_by other = other_data (is_some other) (unwrap_or other 0)

-- what follows the configuration, by a plan
abbrev pub planned : Plan → Element Unit
planned p = rest p.subframes (slots_by (take p.streams p.slots)) (is_some p.other) (unwrap_or p.other 0)

-- a plan of at most 16 streams and 64 subframes
abbrev pub Planned : Plan → Type 0
Planned p = (p.streams ≤ 16) × (p.subframes ≤ 64)
