-- What was worked out by hand comes out, by computation.
use mathlib.Core.Path.{refl}
use Rattle.record_words.specs.Words.{streams_words}
use Rattle.schilfauge.specs.Worked.{WorkedWords}

pub worked_words : WorkedWords
unfolding streams_words
worked_words = refl
