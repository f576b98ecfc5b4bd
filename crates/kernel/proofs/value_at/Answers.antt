-- `kernel::value_at` meets its contract.
use mathlib.Core.Path.{refl}
use native.Mathlib.Nat.{sub_self}
use native.Mathlib.Omega.{arith}
use Rattle.kernel.specs.Bits.{value_at}
use Rattle.kernel.proofs.Values.{value_on, value_room, touched_less}
use Rattle.kernel.proofs.value_at.Goals as goal

pub loop-left-init : goal.loop-left-init
unfolding value_at
loop-left-init c = record { few = omega arith; ends = refl; value = rw sub_self }

pub loop-left-smaller : goal.loop-left-smaller
loop-left-smaller c = touched_less c.loop-left.from c.loop-left.left (omega arith) c.min-taken.ensures

pub overflow_mul-value : goal.overflow_mul-value
overflow_mul-value c =
    let l = c.loop-left in
    omega (
      arith,
      value_room c.args.el.now c.args.at l.from c.min-taken.result (omega arith) l.invariant.value
          c.power.ensures c.value_within-part.ensures (omega arith),
    )

pub overflow_add-value : goal.overflow_add-value
overflow_add-value c =
    let l = c.loop-left in
    omega (
      arith,
      value_room c.args.el.now c.args.at l.from c.min-taken.result (omega arith) l.invariant.value
          c.power.ensures c.value_within-part.ensures (omega arith),
    )

pub loop-left-preserved : goal.loop-left-preserved
loop-left-preserved c =
    let l = c.loop-left in
    record {
      few = omega arith;
      ends = omega arith;
      value = value_on c.args.el.now c.args.at l.from c.min-taken.result (omega arith) l.invariant.value
          c.power.ensures c.value_within-part.ensures;
    }
