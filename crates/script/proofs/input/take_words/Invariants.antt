use Rattle.script.specs.Taken.{Taken}
use Rattle.script.proofs.input.take_words.Given as goal

abbrev pub invariant-loop-word : goal.invariant-loop-word
invariant-loop-word g l = Taken (g.R.Read.remaining l.initial.input) (g.R.Read.remaining l.input)
