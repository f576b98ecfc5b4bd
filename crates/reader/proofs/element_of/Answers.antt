-- `reader::element_of` meets its contract.
use Rattle.std.proofs.Common.{ap, sym, ◌∙◌, Err, arith}
use Rattle.std.proofs.lemmas.Result.{err_from_is_err_and}
use Rattle.kernel.specs.Reading.{Stands}
use Rattle.kernel.proofs.Steps.{told_stands}
use Rattle.walk.specs.Plan.{Planned}
use Rattle.reader.proofs.Preparing.{prepared_none, plan_of_held}
use Rattle.reader.proofs.Whole.{one_bit, flag_short, flag_sent, flag_unheld, held_takes}
use Rattle.reader.proofs.element_of.Goals as goal

pub returns-in_err-flag : goal.returns-in_err-flag
returns-in_err-flag c held is =
    let a = c.args in
    let p = err_from_is_err_and c.from_residual.result c.from_residual.ensures.1 in
    let t = flag_short a.el.now held a.map.now a.table.now a.sent.now a.prepared.now c.in_err-flag.ensures in
    (p.1 ∙ rw p.2 t.0, t.1, t.2, t.3, t.4)

pub with_sent-requires : goal.with_sent-requires
with_sent-requires c =
    let b = one_bit _ _ c.in_ok-flag.ensures in
    let s : Stands c.args.el.now c.in_ok-flag.flag.next = grind (arith, told_stands) in
    (c.requires.0, b.at, s)

pub returns-then-flag-eq0 : goal.returns-then-flag-eq0
returns-then-flag-eq0 c held is =
    let a = c.args in
    rw (flag_sent a.el.now held a.map.now a.table.now a.sent.now a.prepared.now _ c.in_ok-flag.ensures
    c.if-flag-eq0.true) c.with_sent.ensures

pub returns-in_default : goal.returns-in_default
returns-in_default c held is =
    let a = c.args in
    let t = flag_unheld a.el.now held a.map.now a.table.now a.sent.now a.prepared.now _ c.in_ok-flag.ensures
    c.if-flag-eq0.false (prepared_none held (sym c.in_default.is ∙ is)) in
    (ap Err c.refused_at.ensures ∙ t.0, t.1, t.2, t.3, t.4)

pub finish-requires : goal.finish-requires
finish-requires c =
    let b = one_bit _ _ c.in_ok-flag.ensures in
    let p : Planned c.in-Some.plan = plan_of_held c.requires.2 c.in-Some.is in
    let s : Stands c.args.el.now c.in_ok-flag.flag.next = grind (arith, told_stands) in
    (p, c.requires.0, omega (arith, b.at), s)

pub returns : goal.returns
returns c held is =
    let a = c.args in
    let t = held_takes a.el.now held a.map.now a.table.now a.sent.now a.prepared.now _ c.in_ok-flag.ensures
    c.if-flag-eq0.false (sym c.in-Some.is ∙ is) c.finish.ensures in
    (t.0, t.1, t.2, t.3, sym c.in-Some.is ∙ t.4)
