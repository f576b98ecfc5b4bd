use Rattle.std.proofs.Common.{length, ◌≡◌, ℕ, List, ◌-◌}
use Rattle.capture.specs.declared.Holding.{Holding}
use Rattle.capture.specs.Frames.{start, frames_of, behind_all, point_of, Whole}
use Rattle.summary.proofs.show.Given as goal

-- what is kept leads to where all frames lead
pub record Going (s out : List ℕ) (reached : Holding) : Type 0 where
  pub long : length out ≡ 65536
  pub whole : Whole reached
  pub ahead : let c = point_of reached in
      behind_all c (frames_of s 4368 c) ≡ behind_all start (frames_of s 4368 start)

abbrev pub invariant-loop-reached : goal.invariant-loop-reached
invariant-loop-reached g l = Going l.capture l.out l.reached.holding

abbrev pub decreases-loop-reached : goal.decreases-loop-reached
decreases-loop-reached g l = length l.capture - l.reached.holding.mark.at
