-- `record_words::lay::lay_streams` meets its contract.
use Rattle.std.proofs.Common.{◌≡◌, refl, ◌∙◌, length, rules, arith}
use Rattle.kernel.proofs.Lists.{store_all, store_on, stored_none, stored_length}
use Rattle.record_words.proofs.Words.{streams_turn, streams_done}
use Rattle.record_words.proofs.lay.lay_streams.Goals as goal

pub loop-s-init : goal.loop-s-init
loop-s-init c = record { reached = omega arith; long = refl; rest = store_all }

pub loop-s-preserved : goal.loop-s-preserved
loop-s-preserved c =
    let l = c.loop-s in
    let p = c.lay_stream-to.ensures in
    record {
      reached = omega (arith, p.0);
      long = stored_length p.1 ∙ l.invariant.long;
      rest = store_on (rw (streams_turn c.args.streams l.s-index (omega arith)) at l.invariant.rest) p.1;
    }

pub shape_of-out : goal.shape_of-out
shape_of-out c = c.loop-s.invariant.long

pub returns : goal.returns
returns c =
    let l = c.loop-s in
    let ss = c.args.streams in
    let k : length ss ≡ 16 = search rules in
    let e : l.s-index ≡ 16 = omega arith in
    (omega arith, (rw (e, streams_done ss k) at l.invariant.rest).then stored_none)
