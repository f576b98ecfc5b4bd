-- What a script holds, and what a reading leaves of it.
use Rattle.std.specs.Prelude.{true, Some, None, List, ℕ}
use Rattle.element.specs.Held.{Held, held_if}
use Rattle.element.specs.Reply.{reply_of}
use Rattle.script_reading.specs.declared.Lent.{Lent}

-- what is held of it
abbrev pub held_of : Lent → Held
held_of lent = held_if lent.present lent.config

-- what is lent once this is held: the record held, in place of the one that was lent
abbrev pub lent_by : Lent → Held → Lent
lent_by lent (Some r) = record { present = true; config = r }
lent_by lent None = lent

-- what is lent after an element s, with room for so many numbers in the map
abbrev pub lent_after : Lent → List ℕ → ℕ → Lent
lent_after lent s room = lent_by lent (reply_of s (held_of lent) room).held
