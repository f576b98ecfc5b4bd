-- `records::table::streams_in` meets its contract.
use Rattle.std.proofs.Common.{◌≡◌, ◌≤◌, ◌*◌}
use Rattle.records.specs.Table.{streams_in}
use Rattle.records.proofs.table.streams_in.Given as goal

abbrev pub invariant-loop-p : goal.invariant-loop-p
invariant-loop-p l = (l.sum ≤ 4294967296 * l.p) × (l.sum ≡ streams_in l.layers l.programs l.p)
