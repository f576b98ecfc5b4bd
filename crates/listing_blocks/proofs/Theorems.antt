-- The theorem of each claim of specs/Claims.antt.
use mathlib.Core.Path.{refl}
use Rattle.kernel.specs.Bits.{bit_at, value_at}
use Rattle.kernel.specs.Reading.{◌>>=◌, ◌>>◌, field, pass, here, choose, need, fit, on_fit, run}
use Rattle.kernel.specs.Element.{with_item, over_fit, next, walk, follow}
use Rattle.kernel.specs.Lists.{tab, all_of}
use Rattle.records.specs.Table.{streams_in, table_of}
use Rattle.numbers.specs.Values.{bytes_from, latm_get_value}
use Rattle.asc.specs.Asc.{object_type, any_type, frequency, channel_configuration, unset, ps_extension, ps_tail}
use Rattle.asc.specs.Asc.{sbr_extension, extension_type, sync_extension, tail, ga_specific_config, alone}
use Rattle.asc.specs.Asc.{audio_specific_config}
use Rattle.config.specs.Mux.{windowed, configuration, frame_length, layer, layers, num_layer, programs, mux_head}
use Rattle.config.specs.Mux.{mux_ending, stream_mux_config}
use Rattle.element.specs.Mux.{slot_from, mux_slot_length_bytes, slot_of, payload_length_info, payload_mux, subframe, subframes}
use Rattle.element.specs.Mux.{other_data, byte_alignment, applied, use_same_stream_mux, after_flag, audio_mux_element, rest}
use Rattle.element.specs.Reply.{answer}
use Rattle.sync.specs.Sync.{first_of}
use Rattle.capture.specs.Frames.{frames_from, start}
use Rattle.capture.specs.Blocks.{text_of}
use Rattle.capture.proofs.Theorems.{blocks_are_whole}
use Rattle.listing_blocks.specs.Listing.{line_of, item_lines, records}
use Rattle.listing_blocks.specs.Claims.{WorkedListing, LettersOfKinds, LetterOfRefusal, NothingIsLost}
use Rattle.listing_blocks.specs.Claims.{ListingIsWhole}
use Rattle.listing_blocks.proofs.Digits.{all_said_law}

pub worked_listing : WorkedListing
unfolding line_of text_of frames_from item_lines first_of answer audio_mux_element after_flag use_same_stream_mux applied rest
    byte_alignment other_data subframes subframe payload_mux
    payload_length_info slot_of mux_slot_length_bytes slot_from stream_mux_config mux_ending mux_head programs num_layer layers
    layer frame_length configuration windowed
    audio_specific_config alone ga_specific_config tail sync_extension extension_type sbr_extension ps_tail ps_extension unset
    channel_configuration
    frequency any_type object_type latm_get_value bytes_from all_of table_of streams_in tab follow walk next over_fit with_item
    run on_fit fit need choose here
    pass field ◌>>=◌ ◌>>◌ value_at bit_at
worked_listing = refl

pub letters_of_kinds : LettersOfKinds
letters_of_kinds = refl

pub letter_of_refusal : LetterOfRefusal
unfolding line_of
letter_of_refusal number refusal place count = refl

pub nothing_is_lost : NothingIsLost
nothing_is_lost = all_said_law

pub listing_is_whole : ListingIsWhole
listing_is_whole s size h = blocks_are_whole (Unit {0}) records size s 4368 tt start h
