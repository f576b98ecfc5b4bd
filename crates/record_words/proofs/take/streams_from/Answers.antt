-- `record_words::take::streams_from` meets its contract.
use Rattle.std.proofs.Common.{◌∙◌, rules, arith}
use Rattle.std.proofs.lemmas.List.Edits.{fill_by_more}
use Rattle.records.specs.Blank.{no_stream}
use Rattle.records.proofs.Tables.{filled}
use Rattle.record_words.proofs.Words.{stream_from_law}
use Rattle.record_words.proofs.take.streams_from.Goals as goal

pub loop-i-preserved : goal.loop-i-preserved
loop-i-preserved c =
    let l = c.loop-i in
    let e = c.stream_from.ensures ∙ stream_from_law c.args.w.now _ in
    (search rules, rw e (fill_by_more _ l.streams l.i no_stream (omega arith) l.invariant.1))

pub returns : goal.returns
returns c = let l = c.loop-i.invariant in filled no_stream _ 16 _ l.0 (λ i h. l.1 i (omega arith))
