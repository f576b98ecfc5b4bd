-- The contract of each public function allows one answer, and one content of what is lent.
use Rattle.kernel.specs.Promises.{AllowsOneOutcome}
use Rattle.kernel.proofs.Theorems.{stored_once}
use Rattle.summary_lines.proofs.lines.lay_row.Reads as lay_row
use Rattle.summary_lines.proofs.lines.lay_refused.Reads as lay_refused
use Rattle.summary_lines.proofs.rows.lay_rows.Reads as lay_rows

pub lay_row_allows_one : AllowsOneOutcome lay_row.Learnt (λ k e. e.0.now)
lay_row_allows_one k a x y e f p q = stored_once _ _ _ _ _ _ x y p.1 q.1

pub lay_refused_allows_one : AllowsOneOutcome lay_refused.Learnt (λ k e. e.0.now)
lay_refused_allows_one k a x y e f p q = stored_once _ _ _ _ _ _ x y p.1 q.1

pub lay_rows_allows_one : AllowsOneOutcome lay_rows.Learnt (λ k e. e.0.now)
lay_rows_allows_one k a x y e f p q = stored_once _ _ _ _ _ _ x y p.1 q.1
