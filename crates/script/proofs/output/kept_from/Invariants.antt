-- those so far were kept
use Rattle.std.proofs.Common.{◌≡◌, take, eqb}
use Rattle.std.specs.List.{list_all}
use Rattle.script.proofs.output.kept_from.Given as goal

abbrev pub invariant-loop-b : goal.invariant-loop-b
invariant-loop-b l = l.kept ≡ list_all (λ n. eqb n 7) (take l.b-index l.b-items)
