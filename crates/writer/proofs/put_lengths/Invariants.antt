-- what is left of the lengths
use Rattle.std.proofs.Common.{◌+◌, ◌*◌, ◌≤◌, length}
use Rattle.kernel.proofs.Puts.{Left}
use Rattle.writer.specs.Written.{lengths_bits}
use Rattle.writer.proofs.Rows.{lengths_left}
use Rattle.writer.proofs.put_lengths.Given as goal

abbrev pub invariant-loop-s : goal.invariant-loop-s
invariant-loop-s l =
    (goal.iterator-loop-s).can_next l.s-iterator × (goal.iterator-loop-s).is_finite l.s-iterator × record {
      most : l.w.at ≤ l.fn.w.at + 264 * length l.yielded;
      left : Left l.fn.w (lengths_bits l.streams l.ns) l.w (lengths_left l.streams l.ns (length l.yielded));
    }
