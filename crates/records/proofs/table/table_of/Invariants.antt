-- `records::table::table_of` meets its contract.
use Rattle.std.proofs.Common.{◌≡◌, ◌≤◌, ◌<◌, ◌*◌, List, [], ℕ, length, get_or}
use Rattle.records.specs.Table.{streams_in, row_at}
use Rattle.records.proofs.table.table_of.Given as goal

-- the rows of p programs are there, and the first stream of the next is `first`
pub record Filling (layers : List ℕ) (programs : ℕ) (t : List (List ℕ)) (first p : ℕ) : Type 0 where
  pub small : first ≤ 4294967296 * p
  pub counted : first ≡ streams_in layers programs p
  pub long : length t ≡ 16
  pub rows : (q : ℕ) → q < p → get_or t q [] ≡ row_at layers programs q

abbrev pub invariant-loop-p : goal.invariant-loop-p
invariant-loop-p l = Filling l.layers l.programs l.t l.first l.p
