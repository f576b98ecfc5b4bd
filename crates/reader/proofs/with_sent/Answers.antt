-- `reader::with_sent` meets its contract.
use Rattle.std.proofs.Common.{◌∙◌, ◌≤◌, true, arith}
use Rattle.std.proofs.lemmas.Result.{err_from_is_err_and}
use Rattle.kernel.specs.Reading.{Stands}
use Rattle.kernel.proofs.Steps.{told_stands}
use Rattle.walk.specs.Plan.{Planned}
use Rattle.walk.proofs.Steps.{told_ahead}
use Rattle.reader.proofs.Plans.{plan_fits}
use Rattle.reader.proofs.Preparing.{prepared_valid}
use Rattle.reader.proofs.Whole.{behind_takes, sent_done, sent_valid, sent_refused}
use Rattle.reader.proofs.with_sent.Goals as goal

pub returns-in_err-config : goal.returns-in_err-config
returns-in_err-config c =
    let a = c.args in
    let p = err_from_is_err_and c.from_residual.result c.from_residual.ensures.1 in
    let t = sent_refused a.el.now a.c a.map.now a.table.now a.sent.now a.prepared.now c.in_err-config.ensures.told in
    (p.1 ∙ rw p.2 t.0, t.1, t.2, t.3, t.4)

pub plan_of-plan-requires : goal.plan_of-plan-requires
plan_of-plan-requires c = sent_valid _ _ _ c.in_ok-config.ensures.told

pub finish-requires : goal.finish-requires
finish-requires c =
    let p : Planned c.plan_of-plan.result =
    rw c.plan_of-plan.ensures (plan_fits c.in_ok-config.config.value (sent_valid _ _ _ c.in_ok-config.ensures.told)) in
    let a : 1 ≤ c.in_ok-config.config.next.at = grind (arith, told_ahead) in
    let s : Stands c.args.el.now c.in_ok-config.config.next = grind (arith, told_stands) in
    (p, c.requires.0, a, s)

pub returns-in_err-accepted : goal.returns-in_err-accepted
returns-in_err-accepted c =
    let a = c.args in
    let p = err_from_is_err_and c.from_residual-in_err-accepted.result c.from_residual-in_err-accepted.ensures.1 in
    let e = c.in_ok-config.ensures.told in
    let t = behind_takes _ _ _ _ (sent_valid _ _ _ e) c.plan_of-plan.ensures a.map.now a.table.now a.sent.now
    a.prepared.now c.in_err-accepted.ensures in
    rw (sent_done _ _ _ c.requires.1 e) (p.1 ∙ rw p.2 t.0, t.1, t.2, t.3, t.4)

pub returns : goal.returns
returns c =
    let a = c.args in
    let e = c.in_ok-config.ensures.told in
    let v = sent_valid _ _ _ e in
    let t = behind_takes _ _ _ true v c.plan_of-plan.ensures a.map.now a.table.now a.sent.now a.prepared.now
    c.in_ok-accepted.ensures in
    rw (sent_done _ _ _ c.requires.1 e, c.plan_of-plan.ensures)
    (t.0, t.1, c.in_ok-config.ensures.table ∙ t.2, t.3, rw (prepared_valid _ v) at t.4)
