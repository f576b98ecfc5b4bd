-- The contract of each public function allows one answer, and one content of what is lent.
use mathlib.Core.Path.{sym, ◌∙◌}
use Rattle.kernel.specs.Promises.{AllowsOne}
use Rattle.script.proofs.map.set_all.Reads as map_set_all
use Rattle.script.proofs.output.set_all.Reads as output_set_all

pub map_set_all_allows_one : AllowsOne map_set_all.Learnt (λ k r e. e.0.now)
map_set_all_allows_one k a x y e f p q = p ∙ sym q

pub output_set_all_allows_one : AllowsOne output_set_all.Learnt (λ k r e. e.0.now)
output_set_all_allows_one k a x y e f p q = p ∙ sym q
