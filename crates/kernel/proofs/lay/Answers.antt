-- `kernel::lay` meets its contract.
use Rattle.std.proofs.Common.{ap, ◌∙◌, ◌+◌, ℕ, List, set, get_or, arith}
use lib.ListN.{length-set}
use Rattle.kernel.proofs.Lists.{stored_more}
use Rattle.kernel.proofs.lay.Goals as goal

pub loop-i-preserved : goal.loop-i-preserved
loop-i-preserved c =
    let l = c.loop-i in
    let src = c.args.src.now in
    let p = c.min-from.result + l.i in
    record {
      long = length-set l.out p (get_or src l.i 0) ∙ l.invariant.long;
      cells = ap (λ (o : List ℕ). set o p (get_or src l.i 0)) l.invariant.cells
          ∙ stored_more src c.args.out.now c.min-from.result l.i 0 (omega arith);
    }
