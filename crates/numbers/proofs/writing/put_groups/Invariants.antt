-- what is left of the groups
use Rattle.std.proofs.Common.{◌+◌, ◌*◌, ◌≤◌}
use Rattle.numbers.specs.Values.{group_bits, groups_after}
use Rattle.kernel.proofs.Puts.{Left}
use Rattle.numbers.proofs.writing.put_groups.Given as goal

abbrev pub invariant-loop-k : goal.invariant-loop-k
invariant-loop-k l =
    record {
      few : l.k ≤ 3;
      most : l.w.at + 9 * l.k ≤ l.fn.w.at + 27;
      left : Left l.fn.w (group_bits l.v) l.w (groups_after l.k l.v);
    }
