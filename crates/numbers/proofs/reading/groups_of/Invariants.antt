-- what is left of the groups comes to what all of them come to
use Rattle.std.proofs.Common.{◌≡◌, ◌<◌}
use Rattle.kernel.specs.Reading.{Stands}
use Rattle.kernel.specs.Answer.{told}
use Rattle.numbers.specs.Values.{groups_from}
use Rattle.numbers.proofs.Turns.{numbers_of, groups_left}
use Rattle.numbers.proofs.reading.groups_of.Given as goal

abbrev pub invariant-loop-i : goal.invariant-loop-i
invariant-loop-i l =
    record {
      whole : told l.el (groups_left 4 l.i l.number.value) l.number.next ≡ told l.el (groups_from 4 0) l.fn.c;
      stands : Stands l.el l.number.next;
      small : l.number.value < numbers_of l.i;
    }
