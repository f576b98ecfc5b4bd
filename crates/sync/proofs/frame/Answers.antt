use Rattle.std.proofs.Common.{arith}
use Rattle.sync.proofs.Frames.{frame_laid}
use Rattle.sync.proofs.frame.Goals as goal

pub returns : goal.returns
returns c =
    frame_laid c.lay-at.ensures.1 c.lay.ensures.1 c.to_be_bytes.ensures (omega arith) (omega arith) (omega arith)
