-- from whatever point and state the value given is of, what is left of the block
use Prim.Native.Nat.{◌-◌}
use lib.ListN.{length}
use Rattle.capture.proofs.Blocks.{Going}
use Rattle.capture.proofs.lay_frames.Given as goal

abbrev pub invariant-loop-used : goal.invariant-loop-used
invariant-loop-used g l =
    Going g.R.Reporter.report g.R.Reporter.is_of l.capture l.fn.out l.fn.from l.map l.out l.used l.reached

abbrev pub decreases-loop-used : goal.decreases-loop-used
decreases-loop-used g l = length l.capture - (g.R.Reporter.mark l.reached).at
