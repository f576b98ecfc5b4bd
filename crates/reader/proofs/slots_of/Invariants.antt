-- the slots of the streams so far
use Rattle.std.proofs.Common.{◌≡◌}
use Rattle.reader.proofs.Plans.{filled}
use Rattle.reader.proofs.slots_of.Given as goal

abbrev pub invariant-loop-i : goal.invariant-loop-i
invariant-loop-i l = l.slots ≡ filled l.streams l.i
