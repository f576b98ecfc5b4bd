-- `reader::plan_of` meets its contract.
use Rattle.std.proofs.Common.{arith}
use Rattle.reader.proofs.Plans.{plan_fits, fixable, many}
use Rattle.reader.proofs.plan_of.Goals as goal

pub slots_of-requires : goal.slots_of-requires
slots_of-requires c =
    let r = c.args.r in
    let f = plan_fits r c.requires in
    rw c.streams_in-n.ensures (omega (arith, many r c.requires, f.0), fixable r c.requires)
