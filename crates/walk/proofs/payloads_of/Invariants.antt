-- what is left of the payloads comes to what all of them come to
use Rattle.std.proofs.Common.{◌≡◌, ◌+◌, ◌≤◌}
use Rattle.kernel.specs.Reading.{Stands}
use Rattle.element.specs.Mux.{payload_mux}
use Rattle.walk.specs.Parts.{walked, mapped}
use Rattle.walk.proofs.Turns.{payloads_left}
use Rattle.walk.proofs.payloads_of.Given as goal

abbrev pub invariant-loop-i : goal.invariant-loop-i
invariant-loop-i l =
    record {
      walks : walked l.el (payloads_left l.i l.widths) l.walked ≡ walked l.el (payload_mux 0 l.widths) l.fn.from;
      maps : mapped l.el (payloads_left l.i l.widths) l.walked l.map ≡ mapped l.el (payload_mux 0 l.widths) l.fn.from l.initial.map;
      stands : Stands l.el l.walked.cursor;
      few : l.walked.items ≤ l.fn.from.items + l.i;
    }
