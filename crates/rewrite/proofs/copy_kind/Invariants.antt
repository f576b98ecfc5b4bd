use Rattle.std.proofs.Common.{◌≤◌}
use Rattle.rewrite.proofs.copy_kind.Given as goal

abbrev pub invariant-loop-i : goal.invariant-loop-i
invariant-loop-i l = (l.from ≤ l.at) × (l.at ≤ 8200)
