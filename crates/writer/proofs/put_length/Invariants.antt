-- what is left of the bytes
use Rattle.std.proofs.Common.{◌+◌, ◌*◌, ◌≤◌}
use Rattle.kernel.proofs.Puts.{Left}
use Rattle.writer.specs.Written.{length_bits}
use Rattle.writer.proofs.Rows.{length_left}
use Rattle.writer.proofs.put_length.Given as goal

abbrev pub invariant-loop-k : goal.invariant-loop-k
invariant-loop-k l =
    record {
      most : l.w.at ≤ l.fn.w.at + 8 * l._k;
      left : Left l.fn.w (length_bits l.n) l.w (length_left l.n l._k);
    }
