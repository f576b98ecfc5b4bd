use Rattle.std.proofs.Common.{length, ◌-◌}
use Rattle.capture.specs.Frames.{Whole}
use Rattle.rewrite.proofs.all.Given as goal

-- that the mark is that of what is held
abbrev pub invariant-loop-step : goal.invariant-loop-step
invariant-loop-step g l = Whole l.reached

abbrev pub decreases-loop-step : goal.decreases-loop-step
decreases-loop-step g l = length l.capture - l.reached.mark.at
