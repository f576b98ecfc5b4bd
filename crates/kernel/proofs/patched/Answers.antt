-- `kernel::patched` meets its contract.
use Prim.Native.Nat.{◌-◌}
use native.Mathlib.Omega.{arith}
use Rattle.kernel.proofs.Laid.{patched_small, patched_bits}
use Rattle.kernel.proofs.patched.Goals as goal

pub overflow_cast-result : goal.overflow_cast-result
overflow_cast-result c =
    let a = c.args in
    omega (
      arith,
      patched_small a.x a.from a.width (8 - a.from - a.width) a.v (omega arith) _ _
          c.power-over.ensures c.power-rest.ensures (omega arith),
    )

pub returns : goal.returns
returns c =
    let a = c.args in
    rw (c.power-over.ensures, c.power-rest.ensures)
    (patched_bits a.x a.from a.width (8 - a.from - a.width) a.v (omega arith) (omega arith))
