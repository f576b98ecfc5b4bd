-- the lines of a frame, as a report of it
use Rattle.summary_blocks.proofs.Blocks.{laid_frame}
use Rattle.summary_blocks.proofs.SummaryReporter.lay.Goals as goal

pub returns : goal.returns
returns c =
    let n = c.lay_verdict.ensures in
    (n.0, λ s p x map table is t. laid_frame t is.0 is.1 n.1)
