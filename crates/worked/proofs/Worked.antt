-- The worked cases come out, by computation.
use mathlib.Core.Path.{refl}
use Rattle.kernel.specs.Answer.{told}
use Rattle.kernel.specs.Bits.{bit_at, value_at}
use Rattle.kernel.specs.Reading.{◌>>=◌, ◌>>◌, field, pass, here, choose, need, fit, on_fit, run}
use Rattle.kernel.specs.Element.{with_item, over_fit, next, walk, follow}
use Rattle.kernel.specs.Lists.{tab, all_of}
use Rattle.records.specs.Table.{streams_in, table_of}
use Rattle.numbers.specs.Values.{bytes_from, latm_get_value}
use Rattle.asc.specs.Asc.{object_type, any_type, hertz, frequency, channel_configuration, unset, ps_extension, ps_tail}
use Rattle.asc.specs.Asc.{sbr_extension, extension_type, sync_extension, tail, ga_specific_config, alone, under_front}
use Rattle.asc.specs.Asc.{audio_specific_config}
use Rattle.config.specs.Mux.{windowed, configuration, frame_length, sent_or_same, layer, layers, num_layer, programs}
use Rattle.config.specs.Mux.{mux_version_a, mux_head, mux_ending, stream_mux_config}
use Rattle.element.specs.Mux.{slot_from, slot_of, payload_length_info, payload_mux, subframe, subframes, other_data}
use Rattle.element.specs.Mux.{byte_alignment, applied, use_same_stream_mux, after_flag, audio_mux_element, rest}
use Rattle.element.specs.Mux.{mux_slot_length_bytes}
use Rattle.element.specs.Reply.{answer, numbers}
use Rattle.worked.specs.Worked.{AllComeOut, table, Worked}

infixr 10 ◌&◌
pub ◌&◌ : {A B : Type 0} → A → B → A × B
a & b = (a, b)

pub worked : Worked
unfolding told AllComeOut table answer numbers audio_mux_element after_flag use_same_stream_mux applied rest byte_alignment
    other_data subframes subframe payload_mux
    payload_length_info slot_of mux_slot_length_bytes slot_from stream_mux_config mux_ending mux_head mux_version_a programs num_layer
    layers layer sent_or_same frame_length configuration windowed
    audio_specific_config alone under_front ga_specific_config tail sync_extension extension_type sbr_extension ps_tail
    ps_extension unset channel_configuration
    frequency hertz any_type object_type latm_get_value bytes_from all_of table_of streams_in tab follow walk next over_fit
    with_item run on_fit fit need choose here
    pass field ◌>>=◌ ◌>>◌ value_at bit_at
worked =
    (refl, refl) & refl & refl & (refl, refl) & (refl, refl) & (refl, refl) & (refl, refl) & (refl, refl) & refl
    & (refl, refl, refl, refl, refl) & (refl, refl) & (refl, refl, refl, refl, refl) & (refl, refl)
    & (refl, refl, refl, refl, refl) & (refl, refl, refl, refl, refl)
    & (refl, refl) & refl & (refl, refl) & (refl, refl) & refl & (refl, refl) & (refl, refl) & refl & (refl, refl)
    & (refl, refl) & refl & refl & refl & refl & refl & refl & refl & refl & refl & tt
