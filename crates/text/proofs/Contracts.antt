-- The contract of each public function allows one answer, and one content of what is lent.
use Rattle.kernel.specs.Promises.{AllowsOneOutcome}
use Rattle.kernel.proofs.Theorems.{stored_once}
use Rattle.text.proofs.lay_number.Reads as lay_number
use Rattle.text.proofs.lay_column.Reads as lay_column
use Rattle.text.proofs.lay_words.Reads as lay_words

pub lay_number_allows_one : AllowsOneOutcome lay_number.Learnt (λ k e. e.0.now)
lay_number_allows_one k a x y e f p q = stored_once _ _ _ _ _ _ x y p.1 q.1

pub lay_column_allows_one : AllowsOneOutcome lay_column.Learnt (λ k e. e.0.now)
lay_column_allows_one k a x y e f p q = stored_once _ _ _ _ _ _ x y p.1 q.1

pub lay_words_allows_one : AllowsOneOutcome lay_words.Learnt (λ k e. e.0.now)
lay_words_allows_one k a x y e f p q = stored_once _ _ _ _ _ _ x y p.1 q.1
