-- what it is given is of a point
use Rattle.std.proofs.Common.{refl}
use Rattle.capture.specs.Frames.{point_of}
use Rattle.summary_blocks.proofs.Blocks.{block_laid}
use Rattle.summary_blocks.proofs.lay_block.Goals as goal

pub lay_block-requires : goal.lay_block-requires
lay_block-requires c =
    record { point = point_of c.args.from.holding; state = c.args.from.said; is = (c.requires, refl) }

pub returns-clause-block : goal.returns-clause-block
returns-clause-block c = block_laid _ _ _ _ (c.lay_block.ensures.block _ _ (c.requires, refl))
