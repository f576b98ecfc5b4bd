use Rattle.std.proofs.Common.{arith}
use Rattle.kernel.proofs.Lists.{stored_then}
use Rattle.summary_blocks.proofs.lay_refusal.Goals as goal

pub returns : goal.returns
returns c = (omega arith, stored_then c.lay_if-a.ensures.1 c.lay_refused.ensures.1)
