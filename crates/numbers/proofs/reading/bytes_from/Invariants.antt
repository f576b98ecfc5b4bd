-- what is left of the bytes comes to what all of them come to
use Rattle.std.proofs.Common.{◌≡◌, ◌<◌}
use Rattle.kernel.specs.Reading.{Stands}
use Rattle.kernel.specs.Answer.{told}
use Rattle.numbers.specs.Values.{bytes_from}
use Rattle.numbers.proofs.Turns.{numbers_of, bytes_left}
use Rattle.numbers.proofs.reading.bytes_from.Given as goal

abbrev pub invariant-loop-i : goal.invariant-loop-i
invariant-loop-i l =
    record {
      whole : told l.el (bytes_left l.n l.i l.number.value) l.number.next ≡ told l.el (bytes_from l.n 0) l.fn.c;
      stands : Stands l.el l.number.next;
      small : l.number.value < numbers_of l.i;
    }
