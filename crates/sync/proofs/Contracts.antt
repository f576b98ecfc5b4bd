-- The contract of each public function allows one answer, and one content of what is lent.
use mathlib.Core.Path.{sym, ◌∙◌}
use Rattle.kernel.specs.Promises.{AllowsOne, AllowsOneOutcome}
use Rattle.sync.proofs.Theorems.{framed_once}
use Rattle.sync.proofs.hunt.Reads as hunt
use Rattle.sync.proofs.element_at.Reads as element_at
use Rattle.sync.proofs.frame.Reads as frame

pub hunt_allows_one : AllowsOne hunt.Learnt (λ k r e. r)
hunt_allows_one k a x y e f p q = p ∙ sym q

pub element_at_allows_one : AllowsOne element_at.Learnt (λ k r e. r.now)
element_at_allows_one k a x y e f p q = p ∙ sym q

pub frame_allows_one : AllowsOneOutcome frame.Learnt (λ k e. e.1.0.now)
frame_allows_one k a x y e f p q = framed_once _ _ _ _ x y p q
