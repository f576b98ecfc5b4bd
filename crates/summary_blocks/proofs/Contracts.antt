-- The contracts of the functions that the whole summary rests on allow one answer, and one content of what is lent.
use mathlib.Core.Path.{sym, ◌∙◌}
use Rattle.kernel.specs.Promises.{AllowsOneOutcome}
use Rattle.kernel.proofs.Theorems.{stored_once}
use Rattle.summary_blocks.proofs.lay_block.Reads as lay_block
use Rattle.summary_blocks.proofs.lay_head.Reads as lay_head
use Rattle.summary_blocks.proofs.lay_end.Reads as lay_end

pub lay_block_allows_one : AllowsOneOutcome lay_block.Learnt (λ k e. e.1.1.0.now)
lay_block_allows_one k a x y e f p q =
    (p.0.0 ∙ sym q.0.0, (stored_once _ _ _ _ _ _ x.bytes y.bytes p.0.1 q.0.1).1)

pub lay_head_allows_one : AllowsOneOutcome lay_head.Learnt (λ k e. e.0.now)
lay_head_allows_one k a x y e f p q = stored_once _ _ _ _ _ _ x y p.1 q.1

pub lay_end_allows_one : AllowsOneOutcome lay_end.Learnt (λ k e. e.0.now)
lay_end_allows_one k a x y e f p q = stored_once _ _ _ _ _ _ x y p.1 q.1
