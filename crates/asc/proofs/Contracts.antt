-- The contract of each public function allows one answer, and one content of what is lent.
use mathlib.Core.Path.{sym, ◌∙◌}
use Rattle.kernel.specs.Promises.{AllowsOne}
use Rattle.kernel.proofs.Theorems.{fetched_once}
use Rattle.asc.proofs.Theorems.{rated_once, formed_once, configured_once}
use Rattle.asc.proofs.object_types.is_core.Reads as is_core
use Rattle.asc.proofs.object_types.object_type.Reads as object_type
use Rattle.asc.proofs.object_types.any_type.Reads as any_type
use Rattle.asc.proofs.rates.frequency_of.Reads as frequency_of
use Rattle.asc.proofs.signalling.left_of.Reads as left_of
use Rattle.asc.proofs.signalling.asc_tail.Reads as asc_tail
use Rattle.asc.proofs.audio_specific_config.Reads as audio_specific_config

pub is_core_allows_one : AllowsOne is_core.Learnt (λ k r e. r)
is_core_allows_one k a x y e f p q = p ∙ sym q

pub object_type_allows_one : AllowsOne object_type.Learnt (λ k r e. r)
object_type_allows_one k a x y e f p q = fetched_once _ _ _ x y p q

pub any_type_allows_one : AllowsOne any_type.Learnt (λ k r e. r)
any_type_allows_one k a x y e f p q = fetched_once _ _ _ x y p q

pub frequency_of_allows_one : AllowsOne frequency_of.Learnt (λ k r e. r)
frequency_of_allows_one k a x y e f p q = rated_once _ _ _ x y p q

pub left_of_allows_one : AllowsOne left_of.Learnt (λ k r e. r)
left_of_allows_one k a x y e f p q = p ∙ sym q

pub asc_tail_allows_one : AllowsOne asc_tail.Learnt (λ k r e. r)
asc_tail_allows_one k a x y e f p q = formed_once _ _ _ x y p q

pub audio_specific_config_allows_one : AllowsOne audio_specific_config.Learnt (λ k r e. r)
audio_specific_config_allows_one k a x y e f p q = configured_once _ _ _ x y p q
