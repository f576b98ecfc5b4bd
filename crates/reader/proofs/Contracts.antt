-- The contract of each public function allows one answer, and one content of what is lent.
use mathlib.Core.Path.{sym, ◌∙◌}
use mathlib.Core.List.{List}
use Prim.Native.Nat.{ℕ}
use Rattle.kernel.specs.Promises.{AllowsOne, AllowsOneOutcome}
use Rattle.element.proofs.Theorems.{read_once, read_with_once}
use Rattle.std.specs.Prelude.{Option}
use Rattle.element.specs.Held.{Held}
use Rattle.walk.specs.declared.Plan.{Plan}
use Rattle.reader.specs.Prepared.{OfHeld}
use Rattle.reader.proofs.prepare.Reads as prepare
use Rattle.reader.proofs.read_in_place.Reads as read_in_place
use Rattle.reader.proofs.read_prepared.Reads as read_prepared
use Rattle.reader.proofs.read_with.Reads as read_with
use Rattle.reader.proofs.read.Reads as read

pub prepare_allows_one : AllowsOne prepare.Learnt (λ k r e. r)
prepare_allows_one k a x y e f p q = p ∙ sym q

-- of what was prepared of something held
pub read_in_place_allows_one : AllowsOneOutcome (λ k a r e. OfHeld a.1.1.1.1.0.now × read_in_place.Learnt k a r e)
    {X = (List ℕ × List (List ℕ)) × (Held × Option Plan)}
    (λ k e. ((e.1.0.now, e.1.1.0.now), (e.1.1.1.0.now, e.1.1.1.1.0.now)))
read_in_place_allows_one k a x y e f p q =
    let o = p.0 in
    let s = p.1 o.held o.is in
    let t = q.1 o.held o.is in
    (s.0 ∙ sym t.0, λ i. (((s.1 ∙ sym t.1) i, (s.2 ∙ sym t.2) i), ((s.3 ∙ sym t.3) i, (s.4 ∙ sym t.4) i)))

pub read_prepared_allows_one : AllowsOneOutcome (λ k a r e. OfHeld a.1.0 × read_prepared.Learnt k a r e) {X = List ℕ
    × List (List ℕ)} (λ k e. (e.1.1.0.now, e.1.1.1.0.now))
read_prepared_allows_one k a x y e f p q =
    let o = p.0 in
    let s = p.1 o.held o.is in
    let t = q.1 o.held o.is in
    (s.0 ∙ sym t.0, λ i. ((s.1 ∙ sym t.1) i, (s.2 ∙ sym t.2) i))

pub read_with_allows_one : AllowsOneOutcome read_with.Learnt {X = List ℕ
    × List (List ℕ)} (λ k e. (e.1.1.0.now, e.1.1.1.0.now))
read_with_allows_one k a x y e f p q =
    let s = read_with_once a.0.now a.1.0 x y a.1.1.0.now _ _ a.1.1.1.0.now _ _ p q in
    (s.0, λ i. (s.1 i, s.2 i))

pub read_allows_one : AllowsOneOutcome read.Learnt (λ k e. e.1.1.0.now)
read_allows_one k a x y e f p q = read_once a.0.now a.1.0 x y a.1.1.0.now _ _ p q
