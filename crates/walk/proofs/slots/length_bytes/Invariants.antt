-- what is left of the bytes comes to what all of them come to
use Rattle.std.proofs.Common.{◌≡◌, ◌*◌, ◌≤◌}
use Rattle.kernel.specs.Reading.{Stands}
use Rattle.kernel.specs.Answer.{told}
use Rattle.element.specs.Mux.{mux_slot_length_bytes}
use Rattle.walk.proofs.Turns.{slot_left}
use Rattle.walk.proofs.slots.length_bytes.Given as goal

abbrev pub invariant-loop-i : goal.invariant-loop-i
invariant-loop-i l =
    record {
      whole : told l.el (slot_left l.i l.slot.value) l.slot.next ≡ told l.el mux_slot_length_bytes l.fn.c;
      stands : Stands l.el l.slot.next;
      small : l.slot.value ≤ 255 * l.i;
    }
