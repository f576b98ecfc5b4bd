-- `writer::measures::sum_of` meets its contract.
use Rattle.std.proofs.Common.{◌≡◌, sum, arith, rules}
use Rattle.writer.proofs.Subframes.{sum_all}
use Rattle.writer.proofs.Element.{sum_small}
use Rattle.writer.proofs.measures.sum_of.Goals as goal

pub returns-clause-small : goal.returns-clause-small
returns-clause-small c =
    let ns = c.args.ns.now in
    let e : c.sum.result ≡ sum ns = search rules in
    omega (arith, sum_all ns, sum_small ns (λ i. omega (arith, c.type_inv.ns i)))
