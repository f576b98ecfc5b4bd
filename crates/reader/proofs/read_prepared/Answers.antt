-- `reader::read_prepared` meets its contract.
use Rattle.reader.proofs.Whole.{replied}
use Rattle.reader.proofs.read_prepared.Goals as goal

pub returns : goal.returns
returns c held is =
    let t = c.read_in_place-verdict.ensures held is in
    (replied _ _ _ _ _ t.0 t.3 t.4, t.1, t.2)
