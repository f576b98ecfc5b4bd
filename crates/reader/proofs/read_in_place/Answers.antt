-- `reader::read_in_place` meets its contract.
use Rattle.std.proofs.Common.{ap, ◌∙◌, Err, arith}
use Rattle.reader.proofs.Whole.{Unread, map_small, length_none, length_over, length_right}
use Rattle.reader.proofs.read_in_place.Goals as goal
use Rattle.reader.proofs.read_in_place.Goals.{then-el-eq0-via-then-el-eq0, then-el-eq0-via-else-el-eq0+then-el-gt8191}

pub returns-then-map-lt4368 : goal.returns-then-map-lt4368
returns-then-map-lt4368 c held is =
    let a = c.args in
    let t = map_small a.el.now held a.map.now a.table.now a.sent.now a.prepared.now (omega arith) in
    (ap Err c.unread.ensures ∙ t.0, t.1, t.2, t.3, t.4)

pub returns-then-el-eq0 : goal.returns-then-el-eq0
returns-then-el-eq0 c held is =
    let a = c.args in
    let t : Unread a.el.now held a.map.now a.table.now a.sent.now a.prepared.now 2 =
    elim c.then-el-eq0.branch [
      | then-el-eq0-via-then-el-eq0 w ↦
          length_none a.el.now held a.map.now a.table.now a.sent.now a.prepared.now (omega arith) w.if-el-eq0.true
      | then-el-eq0-via-else-el-eq0+then-el-gt8191 w ↦
          length_over a.el.now held a.map.now a.table.now a.sent.now a.prepared.now (omega arith) w.if-el-eq0.false
          w.if-el-gt8191.true
    ] in
    (ap Err c.unread-then-el-eq0.ensures ∙ t.0, t.1, t.2, t.3, t.4)

pub returns : goal.returns
returns c held is =
    let a = c.args in
    rw (length_right a.el.now held a.map.now a.table.now a.sent.now a.prepared.now (omega arith) c.if-el-eq0.false
    (omega arith)) (c.element_of.ensures held is)
