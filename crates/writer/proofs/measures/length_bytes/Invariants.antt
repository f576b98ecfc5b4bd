-- what is left of the subframes comes to what all of them come to
use Rattle.std.proofs.Common.{◌≡◌, ◌*◌, ◌≤◌, length}
use Rattle.writer.specs.Sizes.{bytes_if_fit}
use Rattle.writer.proofs.Subframes.{rows, bytes_left}
use Rattle.writer.proofs.measures.length_bytes.Given as goal

abbrev pub invariant-loop-j : goal.invariant-loop-j
invariant-loop-j l =
    record {
      whole : bytes_left l.n l.streams l._j l.rest l.bytes ≡ bytes_if_fit l.n l.streams l.ns;
      long : length l.rest ≡ rows l.n l._j (length l.streams);
      small : l.bytes ≤ 269488160 * l._j;
    }
