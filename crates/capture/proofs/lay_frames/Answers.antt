-- `capture::lay_frames` meets its contract.
use borrow.Author.Rules.{rules}
use native.Mathlib.Omega.{arith}
use mathlib.Core.Path.{◌∙◌}
use Rattle.capture.specs.Frames.{behind}
use Rattle.capture.proofs.Steps.{took, took_none, nearer}
use Rattle.capture.proofs.Blocks.{left_all, left_on, left_none, left_full, block_laid, within}
use Rattle.capture.proofs.lay_frames.Goals as goal

pub loop-used-init : goal.loop-used-init
loop-used-init g c = record {
  rooms = search rules;
  begun = λ p x is. record { point = p; state = x; is = is; left = left_all _ _ _ 4368 };
}

pub returns-in_default-clause-block : goal.returns-in_default-clause-block
returns-in_default-clause-block g c p x is =
    let m = g.met.R.Reporter in
    let i = c.loop-used.invariant in
    let o = i.begun p x is in
    let k = c.mark.ensures ∙ m.mark_is _ _ _ o.is in
    let e = took_none _ 4368 _ _ _ k i.rooms.map_room c.in_default.ensures in
    block_laid _ _ _ _ o.is
    (left_none _ _ _ 4368 o.left e (omega (arith, c.block_room-room.ensures, m.most_is, c.MOST.ensures)))

pub lay-used-requires : goal.lay-used-requires
lay-used-requires g c =
    let m = g.met.R.Reporter in
    let i = c.loop-used.invariant in
    let o = i.begun c.requires.1.point c.requires.1.state c.requires.1.is in
    let k = c.mark.ensures ∙ m.mark_is _ _ _ o.is in
    let t = took _ 4368 _ _ _ k i.rooms.map_room c.in-Some.ensures in
    (omega (arith, i.rooms.few, m.most_few), within t i.rooms.map_room c.advance.auto.map)

pub loop-used-smaller : goal.loop-used-smaller
loop-used-smaller g c =
    let m = g.met.R.Reporter in
    let i = c.loop-used.invariant in
    let o = i.begun c.requires.1.point c.requires.1.state c.requires.1.is in
    let k = c.mark.ensures ∙ m.mark_is _ _ _ o.is in
    let t = took _ 4368 _ _ _ k i.rooms.map_room c.in-Some.ensures in
    nearer t (m.mark_is _ _ _ o.is) (m.mark_is _ _ _ (c.pass.ensures _ _ _ _ _ _ _ o.is t))

pub loop-used-preserved : goal.loop-used-preserved
loop-used-preserved g c =
    let m = g.met.R.Reporter in
    let i = c.loop-used.invariant in
    let n = c.lay-used.ensures in
    let q = c.block_room-room.ensures in
    record {
      rooms = record { map_room = search rules; long = search rules; few = omega (arith, n.0, q, c.MOST.ensures) };
      begun = λ p x is.
          let o = i.begun p x is in
          let k = c.mark.ensures ∙ m.mark_is _ _ _ o.is in
          let t = took _ 4368 _ _ _ k i.rooms.map_room c.in-Some.ensures in
          record {
            point = behind t.seen;
            state = _;
            is = c.pass.ensures _ _ _ _ _ _ _ o.is t;
            left = left_on _ _ _ 4368 o.left t.seen t.is (omega (arith, q, m.most_is, c.MOST.ensures))
                (n.1 _ _ _ _ _ o.is t);
          };
    }

pub returns-clause-block : goal.returns-clause-block
returns-clause-block g c p x is =
    let m = g.met.R.Reporter in
    let o = c.loop-used.invariant.begun p x is in
    block_laid _ _ _ _ o.is
    (left_full _ _ _ 4368 o.left (omega (arith, c.block_room-room.ensures, m.most_is, c.MOST.ensures)))
