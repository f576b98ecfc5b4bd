-- `records::table::table_of` meets its contract.
use Rattle.std.proofs.Common.{[], arith}
use Rattle.records.specs.Table.{table_of}
use Rattle.records.proofs.Tables.{filled}
use Rattle.records.proofs.table.table_of.Goals as goal

pub returns : goal.returns
unfolding table_of
returns c = let l = c.loop-p.invariant in filled [] _ 16 _ l.long (λ p h. l.rows p (omega arith))
