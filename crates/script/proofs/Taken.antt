-- What is taken from a reader in turn is taken as one.
use Rattle.std.proofs.Common.{Option, List, ℕ, ◌++◌}
use Rattle.std.specs.Io.KnownBytes.{Consumes}
use Rattle.std.proofs.KnownBytes.{Consumes-trans}
use Rattle.script.specs.Taken.{Taken}

pub taken_on : {a b c : Option (List ℕ)} → Taken a b → Taken b c → Taken a c
taken_on p q = record { bytes = p.bytes ++ q.bytes; gone = Consumes-trans _ _ _ p.bytes q.bytes p.gone q.gone }

pub taken_then : {a b c : Option (List ℕ)} (s : List ℕ) → Taken a b → Consumes b c s → Taken a c
taken_then s p q = taken_on p (record { bytes = s; gone = q })

pub ruleset taking = (taken_on, taken_then)
