-- The contract of each public function allows one answer, and one content of what is lent.
use Rattle.kernel.specs.Promises.{AllowsOne, AllowsOneOutcome}
use Rattle.config_reader.proofs.Theorems.{headed_once, ended_once, programs_once, mux_once}
use Rattle.config_reader.proofs.head_fields.head_of.Reads as head_of
use Rattle.config_reader.proofs.layers.programs_of.Reads as programs_of
use Rattle.config_reader.proofs.ending_fields.ending_of.Reads as Ending-of
use Rattle.config_reader.proofs.stream_mux_config.Reads as stream_mux_config

pub head_of_allows_one : AllowsOne head_of.Learnt (λ k r e. r)
head_of_allows_one k a x y e f p q = headed_once _ _ _ x y p.0 q.0

pub programs_of_allows_one : AllowsOneOutcome programs_of.Learnt (λ k e. e.1.1.1.1.0.now)
programs_of_allows_one k a x y e f p q = programs_once _ _ _ _ x y _ _ _ p.0 p.1.0 q.0 q.1.0

pub ending_of_allows_one : AllowsOne Ending-of.Learnt (λ k r e. r)
ending_of_allows_one k a x y e f p q = ended_once _ _ _ x y p q

pub stream_mux_config_allows_one : AllowsOneOutcome stream_mux_config.Learnt (λ k e. e.1.1.0.now)
stream_mux_config_allows_one k a x y e f p q = mux_once _ _ _ x y _ _ _ p.0 p.1.0 q.0 q.1.0
