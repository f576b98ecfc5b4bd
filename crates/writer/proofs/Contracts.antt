-- The contract of each public function allows one answer, and one content of what is lent.
use mathlib.Core.Path.{sym, ◌∙◌}
use Rattle.kernel.specs.Promises.{AllowsOne, AllowsOneOutcome}
use Rattle.writer.proofs.Theorems.{written_once}
use Rattle.writer.proofs.measures.length_bytes.Reads as length_bytes
use Rattle.writer.proofs.measures.sum_of.Reads as sum_of
use Rattle.writer.proofs.measures.other_bytes.Reads as other_bytes
use Rattle.writer.proofs.write.Reads as write

pub length_bytes_allows_one : AllowsOne length_bytes.Learnt (λ k r e. r)
length_bytes_allows_one k a x y e f p q = p.0 ∙ sym q.0

pub sum_of_allows_one : AllowsOne sum_of.Learnt (λ k r e. r)
sum_of_allows_one k a x y e f p q = p.0 ∙ sym q.0

pub other_bytes_allows_one : AllowsOne other_bytes.Learnt (λ k r e. r)
other_bytes_allows_one k a x y e f p q = p ∙ sym q

pub write_allows_one : AllowsOneOutcome write.Learnt (λ k e. e.1.1.1.1.1.0.now)
write_allows_one k a x y e f p q = written_once _ _ _ _ x y p q
