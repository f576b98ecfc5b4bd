-- The contract of each public function allows one answer, and one content of what is lent.
use Rattle.kernel.specs.Promises.{AllowsOne, AllowsOneOutcome}
use Rattle.walk.proofs.Theorems.{lengths_once, finish_once}
use Rattle.walk.proofs.slots.lengths_of.Reads as lengths_of
use Rattle.walk.proofs.finish.Reads as finish

pub lengths_of_allows_one : AllowsOne lengths_of.Learnt (λ k r e. r)
lengths_of_allows_one k a x y e f p q = lengths_once _ _ _ x y (p.0, p.1) (q.0, q.1)

pub finish_allows_one : AllowsOneOutcome finish.Learnt (λ k e. e.1.1.1.1.0.now)
finish_allows_one k a x y e f p q = finish_once _ _ _ _ x y _ _ _ p q
