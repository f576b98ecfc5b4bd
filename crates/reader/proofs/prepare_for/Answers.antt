-- `reader::prepare_for` meets its contract.
use Rattle.std.proofs.Common.{sym, ◌∙◌}
use Rattle.reader.specs.Prepared.{prepared_of}
use Rattle.reader.proofs.prepare_for.Goals as goal

pub returns-then-sends : goal.returns-then-sends
unfolding prepared_of
returns-then-sends c = rw (sym c.sends.ensures ∙ c.if-sends.true)
