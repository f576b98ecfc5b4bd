-- those so far were kept
use Rattle.std.proofs.Common.{◌≡◌, take, eqb}
use Rattle.std.specs.List.{list_all}
use Rattle.script.proofs.map.kept_from.Given as goal

abbrev pub invariant-loop-n : goal.invariant-loop-n
invariant-loop-n l = l.kept ≡ list_all (λ n. eqb n 7) (take l.n-index l.n-items)
