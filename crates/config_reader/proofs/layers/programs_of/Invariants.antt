-- what is left of the programs, and of the layers of one, comes to what all of them come to
use Rattle.std.proofs.Common.{◌≡◌, ◌+◌, ◌-◌, ◌≤◌, length}
use Rattle.kernel.specs.Reading.{Stands}
use Rattle.kernel.specs.Answer.{told}
use Rattle.records.specs.Table.{streams_in}
use Rattle.config.specs.Mux.{programs, no_places}
use Rattle.config_reader.proofs.Turns.{config_before, programs_left, layers_left, rows_until}
use Rattle.config_reader.proofs.layers.programs_of.Given as goal

abbrev pub invariant-loop-p : goal.invariant-loop-p
invariant-loop-p l =
    record {
      whole : told l.el (programs_left l.version l.n l.p l.next l.places.layers l.places.streams) l.cur
          ≡ told l.el (programs l.version (l.n + 1) 0 0 no_places) l.fn.c;
      stands : Stands l.el l.cur;
      layers : length l.places.layers ≡ 16;
      streams : length l.places.streams ≡ 16;
      few : l.next ≤ 16;
      before : l.before ≡ config_before l.next l.places.streams;
      counted : streams_in l.places.layers l.n l.p ≡ l.next;
      rows : l.cells ≡ rows_until l.places.layers l.n l.p;
    }

abbrev pub invariant-loop : goal.invariant-loop
invariant-loop l =
    record {
      whole : told l.el
          (layers_left l.version l.n (l.end + 1) l.counter (l.p + 1) l.next l.places.layers l.places.streams) l.cur
          ≡ told l.el (programs l.version (l.n + 1) 0 0 no_places) l.fn.c;
      stands : Stands l.el l.cur;
      layers : length l.places.layers ≡ 16;
      streams : length l.places.streams ≡ 16;
      few : l.next + (l.end + 1 - l.counter) ≤ 16;
      before : l.before ≡ config_before l.next l.places.streams;
      counted : streams_in l.places.layers l.n (l.p + 1) ≡ l.next + (l.end + 1 - l.counter);
      rows : l.cells ≡ rows_until l.places.layers l.n (l.p + 1);
    }
