-- The theorem of each claim of specs/Claims.antt.
use mathlib.Core.Path.{◌≡◌, refl}
use mathlib.Core.Bool.{Bool, false}
use mathlib.Core.List.{List, [], ◌∷◌}
use Prim.Native.Nat.{suc, ◌≤◌}
use native.Mathlib.Omega.{arith}
use lib.Dec.{eqb}
use lib.ListN.{length}
use borrow.Author.Tests.{ne_eqb}
use Rattle.kernel.specs.Bits.{bit_at, value_at}
use Rattle.kernel.specs.Reading.{◌>>=◌, ◌>>◌, field, pass, here, choose, need, fit, on_fit, run}
use Rattle.kernel.specs.Element.{with_item, over_fit, next, walk, follow}
use Rattle.kernel.specs.Lists.{tab, all_of}
use Rattle.records.specs.Table.{streams_in, table_of}
use Rattle.numbers.specs.Values.{bytes_from, latm_get_value}
use Rattle.asc.specs.Asc.{object_type, any_type, frequency, channel_configuration, unset, ps_extension, ps_tail}
use Rattle.asc.specs.Asc.{sbr_extension, extension_type, sync_extension, tail, ga_specific_config, alone}
use Rattle.asc.specs.Asc.{audio_specific_config}
use Rattle.config.specs.Mux.{windowed, configuration, frame_length, layer, layers, num_layer, programs, mux_head}
use Rattle.config.specs.Mux.{mux_ending, stream_mux_config}
use Rattle.element.specs.Mux.{slot_from, mux_slot_length_bytes, slot_of, payload_length_info, payload_mux, subframe, subframes}
use Rattle.element.specs.Mux.{other_data, byte_alignment, applied, use_same_stream_mux, after_flag, audio_mux_element, rest}
use Rattle.element.specs.Reply.{answer}
use Rattle.sync.specs.Sync.{first_of}
use Rattle.text.specs.Text.{figures}
use Rattle.summary_lines.specs.Lines.{layers_text, programs_text}
use Rattle.capture.specs.Frames.{Point, Seen, start, behind, behind_all, frames_from, frames_of}
use Rattle.capture.specs.Blocks.{text_of}
use Rattle.capture.proofs.Theorems.{blocks_are_whole}
use Rattle.summary_blocks.specs.Summary.{lines}
use Rattle.summary_blocks.specs.Claims.{SummaryIsWhole, WorkedSummary}

-- behind a frame no element has the number 0
not_first : (c : Point) (ms : List Seen) → 1 ≤ c.number → 1 ≤ (behind_all c ms).number
unfolding behind_all
not_first c [] h = h
not_first c (m ∷ ms) h = not_first (behind m) ms (omega arith)

none_or_some : (ms : List Seen) → eqb (behind_all start ms).number 0 ≡ eqb (length ms) 0
unfolding behind_all
none_or_some [] = refl
none_or_some (m ∷ ms) =
    let n = not_first (behind m) ms (omega arith) in
    let e : (behind_all (behind m) ms).number ≡ 0 → ⊥ = λ z. omega (arith, n) in
    let f : suc (length ms) ≡ 0 → ⊥ = λ z. omega arith in
    rw (ne_eqb (behind_all (behind m) ms).number 0 e, ne_eqb (suc (length ms)) 0 f)

pub summary_is_whole : SummaryIsWhole
summary_is_whole s over size h =
    rw (blocks_are_whole Bool lines size s 4368 false start h, none_or_some (frames_of s 4368 start))

pub worked_summary : WorkedSummary
unfolding text_of frames_from figures layers_text programs_text first_of
    answer audio_mux_element after_flag use_same_stream_mux applied rest
    byte_alignment other_data subframes subframe payload_mux
    payload_length_info slot_of mux_slot_length_bytes slot_from stream_mux_config mux_ending mux_head programs num_layer layers
    layer frame_length configuration windowed
    audio_specific_config alone ga_specific_config tail sync_extension extension_type sbr_extension ps_tail ps_extension unset
    channel_configuration
    frequency any_type object_type latm_get_value bytes_from all_of table_of streams_in tab follow walk next over_fit with_item
    run on_fit fit need choose here
    pass field ◌>>=◌ ◌>>◌ value_at bit_at
worked_summary = refl
