-- what is left of the programs
use Rattle.std.proofs.Common.{◌≡◌, ◌+◌, ◌*◌, ◌≤◌}
use Rattle.records.specs.Table.{streams_in}
use Rattle.config.specs.Mux.{programs_bits}
use Rattle.kernel.proofs.Puts.{Left}
use Rattle.config_writer.proofs.Turns.{programs_left}
use Rattle.config_writer.proofs.put_programs.Given as goal

abbrev pub invariant-loop-k : goal.invariant-loop-k
invariant-loop-k l =
    let r = l.fn.r in
    record {
      first : l.next ≡ streams_in r.layers r.programs l.k-index;
      few : l.next ≤ 16;
      most : l.w.at ≤ l.fn.w.at + 3 * l.k-index + 177 * l.next;
      left : Left l.fn.w (programs_bits r.version (r.programs + 1) 0 0 r.layers r.streams) l.w
          (programs_left r.version r.streams r.layers (r.programs + 1) l.k-index l.next);
    }
