-- The frame that a turn took leads further, and what is kept with what is held leads to the point behind it.
use Rattle.std.proofs.Common.{refl, rules, arith}
use Rattle.capture.specs.Frames.{point_of}
use Rattle.capture.proofs.Steps.{whole_mark, took, took_further, whole_then}
use Rattle.rewrite.proofs.all.Goals as goal

pub advance-requires : goal.advance-requires
advance-requires g c = record {
  point = point_of c.loop-step.reached;
  is = whole_mark c.loop-step.reached c.loop-step.invariant;
}

pub loop-step-smaller : goal.loop-step-smaller
loop-step-smaller g c =
    let m = whole_mark c.loop-step.reached c.loop-step.invariant in
    let t = took _ 4368 _ _ _ m (search rules) c.in-Some.ensures in
    rw c.pass.ensures (omega (arith, took_further t))

pub loop-step-preserved : goal.loop-step-preserved
loop-step-preserved g c =
    let m = whole_mark c.loop-step.reached c.loop-step.invariant in
    let t = took _ 4368 _ _ _ m (search rules) c.in-Some.ensures in
    whole_then t c.loop-step.reached refl c.pass.ensures
