use Rattle.std.proofs.Common.{◌≡◌}
use Rattle.std.proofs.lemmas.List.Edits.{sets}
use Rattle.text.specs.Text.{figures}
use Rattle.text.proofs.lay_figures.Given as goal

abbrev pub invariant-loop-left : goal.invariant-loop-left
invariant-loop-left l = sets l.out l.at (figures l.left l.rest) ≡ sets l.initial.out l.at (figures l.width l.n)
