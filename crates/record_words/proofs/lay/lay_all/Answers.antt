-- `record_words::lay::lay_all` meets its contract.
use Rattle.std.proofs.Common.{arith}
use Rattle.kernel.proofs.Lists.{stored_then}
use Rattle.record_words.proofs.lay.lay_all.Goals as goal

pub returns : goal.returns
returns c =
    let h = c.lay_head-head.ensures in
    let l = c.lay-first.ensures in
    let s = c.lay_streams.ensures in
    (omega (arith, h.0, l.0, s.0), stored_then h.1 (stored_then l.1 s.1))
