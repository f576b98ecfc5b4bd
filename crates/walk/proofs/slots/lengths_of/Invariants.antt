-- what is left of the lengths comes to what all of them come to
use Rattle.std.proofs.Common.{◌≡◌, ◌-◌, [], length, drop, replicate}
use Rattle.kernel.specs.Reading.{Stands}
use Rattle.kernel.specs.Answer.{told}
use Rattle.element.specs.Mux.{payload_length_info}
use Rattle.walk.specs.Plan.{slots_by}
use Rattle.walk.proofs.Turns.{lengths_left}
use Rattle.walk.proofs.slots.lengths_of.Given as goal

abbrev pub invariant-loop-i : goal.invariant-loop-i
invariant-loop-i l =
    record {
      whole : told l.el (lengths_left l.widths l.slots l.i) l.next ≡ told l.el (payload_length_info [] (slots_by l.slots)) l.fn.c;
      stands : Stands l.el l.next;
      long : length l.widths ≡ 16;
      zeros : drop l.i l.widths ≡ replicate (16 - l.i) 0;
    }
