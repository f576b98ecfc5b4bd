-- the records of a frame, as a report of it
use Rattle.listing_blocks.proofs.Blocks.{laid_frame}
use Rattle.listing_blocks.proofs.ListingReporter.lay.Goals as goal

pub returns : goal.returns
returns c =
    let n = c.lay_verdict.ensures in
    (n.0, λ s p x map table mark t. laid_frame mark t n.1)
