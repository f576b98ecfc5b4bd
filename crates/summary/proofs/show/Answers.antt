-- A block leads to where all frames lead, and the last one is come there.
use Rattle.std.proofs.Common.{rules, ap, ◌∙◌, arith}
use Rattle.capture.specs.Frames.{Point}
use Rattle.summary_blocks.proofs.Blocks.{block_whole, block_ahead, block_last, block_on}
use Rattle.summary.proofs.show.Goals as goal

pub returns-then-block : goal.returns-then-block
returns-then-block g c =
    ap (λ (p : Point). p.number)
    (block_last _ _ _ _ c.lay_block-block.ensures.block c.if-block.true ∙ c.loop-reached.invariant.ahead)

pub loop-reached-smaller : goal.loop-reached-smaller
loop-reached-smaller g c =
    let i = c.loop-reached.invariant in
    omega (arith, block_on _ _ _ _ c.lay_block-block.ensures.block (omega (arith, i.long)) c.if-block.false)

pub loop-reached-preserved : goal.loop-reached-preserved
loop-reached-preserved g c =
    let p = c.lay_block-block.ensures.block in
    record {
      long = search rules;
      whole = block_whole _ _ _ _ p;
      ahead = block_ahead _ _ _ _ p ∙ c.loop-reached.invariant.ahead;
    }
