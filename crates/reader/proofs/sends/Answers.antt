-- `reader::sends` meets its contract.
use Rattle.std.proofs.Common.{refl, arith}
use Rattle.std.proofs.Math.ListN.{get_or-eq_default}
use Rattle.kernel.specs.Bits.{bit_at}
use Rattle.reader.proofs.sends.Goals as goal

pub returns-then-el-eq0 : goal.returns-then-el-eq0
unfolding bit_at
returns-then-el-eq0 c = rw (get_or-eq_default c.args.el.now 0 {n = 0} (omega arith))

pub returns : goal.returns
unfolding bit_at
returns c = refl
