use Rattle.std.proofs.Common.{arith, refl}
use Rattle.kernel.proofs.Lists.{stored_one}
use Rattle.text.proofs.lay_number.Goals as goal

pub returns : goal.returns
returns c =
    (refl, stored_one _ c.lay_figures.ensures (rw c.digit.ensures at c.store.ensures) (omega arith))
