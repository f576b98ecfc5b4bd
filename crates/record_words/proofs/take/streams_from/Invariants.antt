-- `record_words::take::streams_from` meets its contract.
use Rattle.std.proofs.Common.{◌≡◌, ◌<◌, ◌+◌, ◌*◌, ℕ, length, get_or, drop}
use Rattle.records.specs.Blank.{no_stream}
use Rattle.record_words.specs.Words.{streams_at, stream_size, stream_from}
use Rattle.record_words.proofs.take.streams_from.Given as goal

abbrev pub invariant-loop-i : goal.invariant-loop-i
invariant-loop-i l =
    (length l.streams ≡ 16)
    × ((k : ℕ) → k < l.i → get_or l.streams k no_stream ≡ stream_from (drop (streams_at + stream_size * k) l.w))
