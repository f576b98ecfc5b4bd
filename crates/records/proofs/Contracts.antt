-- The contract of each public function allows one answer, and one content of what is lent.
use mathlib.Core.Path.{sym, ◌∙◌}
use Rattle.kernel.specs.Promises.{AllowsOne}
use Rattle.records.proofs.no_stream.Reads as no_stream
use Rattle.records.proofs.no_record.Reads as no_record
use Rattle.records.proofs.rules.valid.Reads as valid
use Rattle.records.proofs.same.same_config.Reads as same_config
use Rattle.records.proofs.same.same_record.Reads as same_record
use Rattle.records.proofs.table.streams_in.Reads as streams_in
use Rattle.records.proofs.table.row_from.Reads as row_from
use Rattle.records.proofs.table.table_of.Reads as table_of

pub no_stream_allows_one : AllowsOne no_stream.Learnt (λ k r e. r)
no_stream_allows_one k a x y e f p q = p ∙ sym q

pub no_record_allows_one : AllowsOne no_record.Learnt (λ k r e. r)
no_record_allows_one k a x y e f p q = p ∙ sym q

pub valid_allows_one : AllowsOne valid.Learnt (λ k r e. r)
valid_allows_one k a x y e f p q = p ∙ sym q

pub same_config_allows_one : AllowsOne same_config.Learnt (λ k r e. r)
same_config_allows_one k a x y e f p q = p ∙ sym q

pub same_record_allows_one : AllowsOne same_record.Learnt (λ k r e. r)
same_record_allows_one k a x y e f p q = p ∙ sym q

pub streams_in_allows_one : AllowsOne streams_in.Learnt (λ k r e. r)
streams_in_allows_one k a x y e f p q = p ∙ sym q

pub row_from_allows_one : AllowsOne row_from.Learnt (λ k r e. r)
row_from_allows_one k a x y e f p q = p ∙ sym q

pub table_of_allows_one : AllowsOne table_of.Learnt (λ k r e. r)
table_of_allows_one k a x y e f p q = p ∙ sym q
