-- `kernel::value_within` meets its contract.
use Prim.Native.Nat.{◌/◌}
use mathlib.Core.Path.{sym}
use native.Mathlib.Omega.{arith}
use lib.Pow.{pow_pos}
use Rattle.kernel.proofs.Values.{value_within}
use Rattle.kernel.proofs.value_within.Goals as goal

pub overflow_cast-byte : goal.overflow_cast-byte
overflow_cast-byte c = omega (arith, c.type_inv.el (c.args.at / 8))

pub nonzero_rem-result : goal.nonzero_rem-result
nonzero_rem-result c = rw c.power.ensures (pow_pos _)

pub returns : goal.returns
returns c = rw c.power.ensures (sym (value_within _ _ _ (omega arith)))
