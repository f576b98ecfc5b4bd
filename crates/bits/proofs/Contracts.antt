-- The contract of each public function allows one answer, and one content of what is lent. Only a walk can cite that of
-- `take`: `take_at` hands its answer on.
use Rattle.kernel.specs.Promises.{AllowsOne}
use Rattle.kernel.proofs.Theorems.{fetched_once}
use Rattle.bits.proofs.take_at.Reads as take_at

pub take_at_allows_one : AllowsOne take_at.Learnt (λ k r e. r)
take_at_allows_one k a x y e f p q = fetched_once _ _ _ x y p q
