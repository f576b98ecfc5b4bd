-- The contract of each public function allows one answer, and one content of what is lent.
use mathlib.Core.Path.{sym, ◌∙◌}
use Rattle.kernel.specs.Promises.{AllowsOne, AllowsOneOfWriter}
use Rattle.kernel.proofs.Puts.{one_writer}
use Rattle.config_writer.proofs.audio.put_asc.Reads as put_asc
use Rattle.config_writer.proofs.audio.asc_length.Reads as asc_length
use Rattle.config_writer.proofs.put_mux.Reads as put_mux

pub put_asc_allows_one : AllowsOneOfWriter put_asc.Learnt (λ k e. e.0.now)
put_asc_allows_one k a x y e f g h p q = one_writer g h p q

pub asc_length_allows_one : AllowsOne asc_length.Learnt (λ k r e. r)
asc_length_allows_one k a x y e f p q = p.0 ∙ sym q.0

pub put_mux_allows_one : AllowsOneOfWriter put_mux.Learnt (λ k e. e.0.now)
put_mux_allows_one k a x y e f g h p q = one_writer g h p q
