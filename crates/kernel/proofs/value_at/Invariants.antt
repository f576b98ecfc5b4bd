-- The value so far is that of the bits before `from`. The measure: the bytes that the bits left touch; so a field takes
-- no more turns than it touches bytes, at most five (`touched_few`).
use Rattle.std.proofs.Common.{◌≡◌, ◌+◌, ◌-◌, ◌≤◌}
use Rattle.kernel.specs.Bits.{value_at}
use Rattle.kernel.proofs.Values.{touched}
use Rattle.kernel.proofs.value_at.Given as goal

abbrev pub invariant-loop-left : goal.invariant-loop-left
invariant-loop-left l =
    record {
      few : l.left ≤ l.width;
      ends : l.from + l.left ≡ l.at + l.width;
      value : l.value ≡ value_at l.el l.at (l.from - l.at);
    }

abbrev pub decreases-loop-left : goal.decreases-loop-left
decreases-loop-left l = touched l.from l.left
