-- what is left, laid from `to` on, makes the lines whole
use Rattle.std.proofs.Common.{◌≡◌, ◌≤◌, ◌+◌, ◌*◌, length}
use Rattle.std.proofs.lemmas.List.Edits.{sets}
use Rattle.summary_lines.specs.Lines.{programs_text}
use Rattle.summary_lines.proofs.Turns.{programs_left}
use Rattle.summary_lines.proofs.rows.lay_rows.Given as goal

abbrev pub invariant-loop-p : goal.invariant-loop-p
invariant-loop-p l =
    let left = programs_left l.element l.r l.table l.p in
    let all = programs_text l.element l.r l.table 0 16 in
    record {
      whole : sets l.out l.to left ≡ sets l.initial.out l.at all;
      end : l.to + length left ≡ l.at + length all;
      few : l.to ≤ l.at + 896 * l.p;
    }
