-- What is held: the configuration that applies where none is sent, if any.
use Rattle.std.specs.Prelude.{Bool, false, cond, Option, Some, None}
use Rattle.records.specs.declared.Record.{Record}
use Rattle.records.specs.Blank.{no_record}
use Rattle.records.specs.Valid.{valid_of}

-- nothing, or a record
abbrev pub Held : Type 0
Held = Option Record

-- a record that is held only where it is present
abbrev pub held_if : Bool → Record → Held
held_if present r = cond present (Some r) None

-- the record held, or the blank one
abbrev pub config_held : Held → Record
config_held (Some r) = r
config_held None = no_record

-- a held record that 16 refuses counts as nothing held
abbrev pub usable : Held → Bool
usable (Some r) = valid_of r
usable None = false
