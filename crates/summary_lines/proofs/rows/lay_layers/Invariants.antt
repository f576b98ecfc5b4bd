-- what is left, laid from `to` on, makes the lines whole
use Rattle.std.proofs.Common.{◌≡◌, ◌≤◌, ◌+◌, ◌*◌, length}
use Rattle.std.proofs.lemmas.List.Edits.{sets}
use Rattle.summary_lines.specs.Lines.{layers_text}
use Rattle.summary_lines.proofs.Turns.{layers_left}
use Rattle.summary_lines.proofs.rows.lay_layers.Given as goal

abbrev pub invariant-loop-l : goal.invariant-loop-l
invariant-loop-l l =
    let left = layers_left l.element l.r l.table l.p l.l in
    let all = layers_text l.element l.r l.table l.p 0 8 in
    record {
      whole : sets l.out l.to left ≡ sets l.initial.out l.at all;
      end : l.to + length left ≡ l.at + length all;
      few : l.to ≤ l.at + 112 * l.l;
    }
