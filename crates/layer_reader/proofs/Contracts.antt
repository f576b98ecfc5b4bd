-- The contract of the public function allows one answer.
use Rattle.kernel.specs.Promises.{AllowsOne}
use Rattle.layer_reader.proofs.Theorems.{streamed_once}
use Rattle.layer_reader.proofs.layer_of.Reads as layer_of

pub layer_of_allows_one : AllowsOne layer_of.Learnt (λ k r e. r)
layer_of_allows_one k a x y e f p q = streamed_once _ _ _ x y p q
