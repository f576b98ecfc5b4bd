-- The contract of each public function allows one answer, and one content of what is lent.
use Rattle.kernel.specs.Promises.{AllowsOne, AllowsOneOfWriter}
use Rattle.kernel.proofs.Theorems.{fetched_once}
use Rattle.kernel.proofs.Puts.{one_writer}
use Rattle.numbers.proofs.reading.latm_get_value.Reads as latm_get_value
use Rattle.numbers.proofs.reading.groups_of.Reads as groups_of
use Rattle.numbers.proofs.writing.put_value.Reads as put_value
use Rattle.numbers.proofs.writing.put_groups.Reads as put_groups

pub latm_get_value_allows_one : AllowsOne latm_get_value.Learnt (λ k r e. r)
latm_get_value_allows_one k a x y e f p q = fetched_once _ _ _ x y p q

pub groups_of_allows_one : AllowsOne groups_of.Learnt (λ k r e. r)
groups_of_allows_one k a x y e f p q = fetched_once _ _ _ x y p q

pub put_value_allows_one : AllowsOneOfWriter put_value.Learnt (λ k e. e.0.now)
put_value_allows_one k a x y e f g h p q = one_writer g h p q

pub put_groups_allows_one : AllowsOneOfWriter put_groups.Learnt (λ k e. e.0.now)
put_groups_allows_one k a x y e f g h p q = one_writer g h p q
