-- what is left of the subframes
use Rattle.std.proofs.Common.{◌≡◌, ◌+◌, ◌*◌, ◌≤◌, length}
use Rattle.kernel.proofs.Puts.{Left}
use Rattle.writer.specs.Written.{bits_in, sum_of, subframe_pieces}
use Rattle.writer.proofs.Subframes.{rows, bits_left}
use Rattle.writer.proofs.put_subframes.Given as goal

abbrev pub invariant-loop-j : goal.invariant-loop-j
invariant-loop-j l =
    record {
      long : length l.lengths ≡ rows l.n l._j (length l.streams);
      pays : sum_of (rows l.n l._j (length l.streams)) l.lengths ≡ length l.bytes;
      few : length l.bytes ≤ length l.payload;
      most : l.w.at + 8 * length l.bytes ≤ l.fn.w.at + 4224 * l._j + 8 * length l.payload;
      left : Left l.fn.w (bits_in (subframe_pieces l.n l.streams l.ns l.payload)) l.w
          (bits_left l.n l.streams l._j l.lengths l.bytes);
    }
