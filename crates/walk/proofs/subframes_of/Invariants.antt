-- what is left of the subframes comes to what all of them come to
use Rattle.std.proofs.Common.{◌≡◌, ◌+◌, ◌*◌, ◌≤◌}
use Rattle.kernel.specs.Reading.{Stands}
use Rattle.element.specs.Mux.{subframes}
use Rattle.walk.specs.Plan.{slots_by}
use Rattle.walk.specs.Parts.{walked, mapped}
use Rattle.walk.proofs.Turns.{subframes_left}
use Rattle.walk.proofs.subframes_of.Given as goal

abbrev pub invariant-loop-i : goal.invariant-loop-i
invariant-loop-i l =
    record {
      walks : walked l.el (subframes_left l.count l.i (slots_by l.slots)) l.walked
          ≡ walked l.el (subframes l.count (slots_by l.slots)) l.fn.from;
      maps : mapped l.el (subframes_left l.count l.i (slots_by l.slots)) l.walked l.map
          ≡ mapped l.el (subframes l.count (slots_by l.slots)) l.fn.from l.initial.map;
      stands : Stands l.el l.walked.cursor;
      few : l.walked.items ≤ l.fn.from.items + 17 * l.i;
    }
