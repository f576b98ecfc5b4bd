use mathlib.Core.Path.{◌≡◌}
use Rattle.sync.specs.Sync.{hunt_of}
use Rattle.sync.proofs.hunt.Given as goal

-- the hunt goes on from p as it began
abbrev pub invariant-loop-p : goal.invariant-loop-p
invariant-loop-p l = hunt_of l.capture l.p ≡ hunt_of l.capture l.start
