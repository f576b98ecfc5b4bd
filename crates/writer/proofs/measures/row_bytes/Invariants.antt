-- what is left of the slots comes to what all of them come to
use Rattle.std.proofs.Common.{◌≡◌, ◌*◌, ◌≤◌, length}
use Rattle.writer.specs.Sizes.{row_if_fit}
use Rattle.writer.proofs.Rows.{bytes_left}
use Rattle.writer.proofs.measures.row_bytes.Given as goal

abbrev pub invariant-loop-s : goal.invariant-loop-s
invariant-loop-s l =
    (goal.iterator-loop-s).can_next l.s-iterator × (goal.iterator-loop-s).is_finite l.s-iterator × record {
      whole : bytes_left l.streams l.ns (length l.yielded) l.bytes ≡ row_if_fit l.streams l.ns;
      small : l.bytes ≤ 16843010 * length l.yielded;
    }
