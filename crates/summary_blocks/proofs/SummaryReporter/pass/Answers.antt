-- what is held and said behind a frame, as a report of it
use Rattle.std.proofs.Common.{◌∙◌}
use Rattle.summary_blocks.proofs.Blocks.{held_then, said_then}
use Rattle.summary_blocks.proofs.SummaryReporter.pass.Goals as goal

pub returns : goal.returns
returns c =
    λ s p x map map' table table' is t.
    (held_then t is.0 c.pass.ensures, c.said_after-self.ensures ∙ said_then t is.1)
