-- The contract of the function that the whole listing rests on allows one answer, and one content of what is lent.
use mathlib.Core.Path.{sym, ◌∙◌}
use Rattle.kernel.specs.Promises.{AllowsOneOutcome}
use Rattle.kernel.proofs.Theorems.{stored_once}
use Rattle.capture.specs.Frames.{OfPoint}
use Rattle.listing_blocks.proofs.lay_block.Reads as lay_block

-- of the mark of some point
pub lay_block_allows_one : AllowsOneOutcome (λ k a r e. OfPoint a.1.0 × lay_block.Learnt k a r e)
    (λ k e. e.1.1.0.now)
lay_block_allows_one k a x y e f p q =
    let o = p.0 in
    let s = p.1.0 o.point o.is in
    let t = q.1.0 o.point o.is in
    (s.0 ∙ sym t.0, (stored_once _ _ _ _ _ _ x.bytes y.bytes s.1 t.1).1)
