-- The contract of each public function allows one answer, and one content of what is lent.
use mathlib.Core.Path.{sym, ◌∙◌}
use Rattle.kernel.specs.Promises.{AllowsOne}
use Rattle.row.proofs.cell_at.Reads as Cell-at
use Rattle.row.proofs.row_of.Reads as row_of

pub cell_at_allows_one : AllowsOne Cell-at.Learnt (λ k r e. r)
cell_at_allows_one k a x y e f p q = p ∙ sym q

pub row_of_allows_one : AllowsOne row_of.Learnt (λ k r e. r)
row_of_allows_one k a x y e f p q = p ∙ sym q
