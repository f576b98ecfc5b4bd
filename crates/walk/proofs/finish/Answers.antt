-- The verdict and the map by how far the walk came.
use Rattle.std.proofs.Common.{◌≡◌, ap, sym, ◌∙◌, ◌*◌, ◌≤◌, Result, Ok, Err, length, arith}
use Rattle.kernel.specs.declared.Refusal.{Refusal}
use Rattle.kernel.specs.Element.{walk}
use Rattle.walk.specs.Plan.{planned}
use Rattle.walk.specs.declared.Walked.{Walked}
use Rattle.walk.specs.Parts.{walked, mapped, front_count, come}
use Rattle.std.proofs.lemmas.Result.{err_from_is_err_and}
use Rattle.walk.proofs.Steps.{walked_stands}
use Rattle.walk.proofs.Ending.{finish_refused, finish_over, finish_done, few_front}
use Rattle.walk.proofs.finish.Goals as goal

pub returns-in_err-end : goal.returns-in_err-end
unfolding walked
returns-in_err-end c =
    let p = err_from_is_err_and c.from_residual.result c.from_residual.ensures.1 in
    rw (p.1, p.2) (finish_refused c.args.sent c.args.c.at _ _ c.args.map.now _ _ (sym c.in_err-end.ensures.walks))

pub returns-then-end-el : goal.returns-then-end-el
unfolding walked
returns-then-end-el c =
    let f = finish_over c.args.sent c.args.c.at _ (8 * length c.args.el.now) c.args.map.now _ _
    (sym c.in_ok-end.ensures.walks) c.if-end-el.true in
    (ap Err c.refused_at.ensures ∙ f.0, f.1)

pub overflow_cast-result : goal.overflow_cast-result
overflow_cast-result c = grind (arith, walked_stands)

-- what one walk gives is one
one : {w v : Walked} (r : Result Walked Refusal) → Ok w ≡ r → Ok v ≡ r → w ≡ v
one (Ok u) e f = cc
one (Err x) e f = cc

pub returns : goal.returns
unfolding walked mapped
returns c =
    let q : c.in_ok-end.field-0 ≡ c.in_ok-whole.whole =
    one _ c.in_ok-end.ensures.walks c.in_ok-whole.ensures.walks in
    let h : c.in_ok-whole.whole.cursor.at ≡ 8 * length c.args.el.now =
    sym (ap (λ (w : Walked). w.cursor.at) q) ∙ c.if-end-el.false in
    let e : come (front_count c.args.sent) (walk c.args.el.now (planned c.args.plan.now) c.args.c.at c.args.c.fields)
    ≡ Ok c.in_ok-whole.whole = rw (← c.front_count.ensures) (sym c.in_ok-whole.ensures.walks) in
    let f : c.front_count.result ≤ 2 = rw c.front_count.ensures (few_front c.args.sent) in
    finish_done c.args.sent c.args.c.at (8 * length c.args.el.now) c.args.map.now _ _ _ _ e h
    (omega (arith, c.in_ok-whole.ensures.few)) c.push_front.ensures
    (rw (← c.front_count.ensures) c.rest_of-2.ensures.maps)
