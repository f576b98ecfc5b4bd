-- `record_words::lay::lay_streams` meets its contract.
use Rattle.record_words.specs.Words.{stream_size, streams_words}
use Rattle.kernel.proofs.Lists.{ToStore}
use mathlib.Core.Path.{◌≡◌}
use mathlib.Core.List.{List}
use Prim.Native.Nat.{ℕ, ◌+◌, ◌*◌}
use lib.ListN.{length, drop}
use Rattle.records.specs.declared.Stream.{Stream}
use Rattle.record_words.proofs.lay.lay_streams.Given as goal

-- i streams are laid, up to word `to`
pub record Laying (out₀ : List ℕ) (at : ℕ) (streams : List Stream) (out : List ℕ) (to i : ℕ) : Type 0 where
  pub reached : to ≡ at + stream_size * i
  pub long : length out ≡ length out₀
  pub rest : ToStore out₀ at (streams_words streams) out to (streams_words (drop i streams))

abbrev pub invariant-loop-s : goal.invariant-loop-s
invariant-loop-s l = Laying l.initial.out l.at l.s-items l.out l.to l.s-index
