-- Behind a block that is not the last the capture is come further.
use Rattle.std.proofs.Common.{arith}
use Rattle.listing_blocks.proofs.Blocks.{block_on}
use Rattle.listing.proofs.list.Goals as goal

pub loop-reached-smaller : goal.loop-reached-smaller
loop-reached-smaller g c =
    let i = c.loop-reached.invariant in
    let b = c.lay_block-block.ensures.block in
    omega (arith, block_on _ _ i.1 b (omega (arith, i.0)) c.if-block.false)
