use Rattle.std.proofs.Common.{length, ◌≡◌, ◌-◌}
use Rattle.capture.specs.Frames.{OfPoint}
use Rattle.listing.proofs.list.Given as goal

abbrev pub invariant-loop-reached : goal.invariant-loop-reached
invariant-loop-reached g l = (length l.out ≡ 65536) × OfPoint l.reached

abbrev pub decreases-loop-reached : goal.decreases-loop-reached
decreases-loop-reached g l = length l.capture - l.reached.at
