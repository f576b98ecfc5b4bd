-- The contract of each public function allows one answer, and one content of what is lent.
use mathlib.Core.Path.{sym, ◌∙◌}
use mathlib.Core.List.{List}
use Prim.Native.Nat.{ℕ}
use Rattle.kernel.specs.Promises.{AllowsOne, AllowsOneOutcome}
use Rattle.capture.specs.Frames.{OfPoint}
use Rattle.capture.proofs.Theorems.{advanced_once}
use Rattle.capture.proofs.start.Reads as start
use Rattle.capture.proofs.start_holding.Reads as start_holding
use Rattle.capture.proofs.advance.Reads as advance
use Rattle.capture.proofs.Holding.pass.Reads as pass
use Rattle.capture.proofs.block_room.Reads as block_room

pub start_allows_one : AllowsOne start.Learnt (λ k r e. r)
start_allows_one k a x y e f p q = p ∙ sym q

pub start_holding_allows_one : AllowsOne start_holding.Learnt (λ k r e. r)
start_holding_allows_one k a x y e f p q = p ∙ sym q

-- of the mark of some point
pub advance_allows_one : AllowsOneOutcome (λ k a r e. OfPoint a.1.0 × advance.Learnt k a r e)
    {X = List ℕ × List (List ℕ)} (λ k e. (e.1.1.0.now, e.1.1.1.0.now))
advance_allows_one k a x y e f p q =
    let s = advanced_once a.0.now a.1.0 a.1.1.0.now _ _ a.1.1.1.0.now _ _ x y p.0 p.1
    q.1 in
    (s.0, λ i. (s.1 i, s.2 i))

pub pass_allows_one : AllowsOne pass.Learnt (λ k r e. e.0.now)
pass_allows_one k a x y e f p q = p ∙ sym q

pub block_room_allows_one : AllowsOne block_room.Learnt (λ k r e. r)
block_room_allows_one k a x y e f p q = p ∙ sym q
