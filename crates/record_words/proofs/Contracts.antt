-- The contract of each public function allows one answer, and one content of what is lent.
use mathlib.Core.Path.{sym, ◌∙◌}
use Rattle.kernel.specs.Promises.{AllowsOne, AllowsOneOutcome}
use Rattle.record_words.proofs.Theorems.{laid_once}
use Rattle.record_words.proofs.take.record_in.Reads as record_in
use Rattle.record_words.proofs.lay.lay_record.Reads as lay_record

pub record_in_allows_one : AllowsOne record_in.Learnt (λ k r e. r)
record_in_allows_one k a x y e f p q = p ∙ sym q

pub lay_record_allows_one : AllowsOneOutcome lay_record.Learnt (λ k e. e.0.now)
lay_record_allows_one k a x y e f p q = laid_once _ _ _ _ x y p q
