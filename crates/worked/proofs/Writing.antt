-- What was worked out by hand comes out, by computation.
use mathlib.Core.Path.{refl}
use Rattle.kernel.specs.Bits.{odd, bits_of, number, unpack, pack}
use Rattle.kernel.specs.Lists.{tab, all_of}
use Rattle.records.specs.Table.{streams_in}
use Rattle.numbers.specs.Values.{value_bits}
use Rattle.asc.specs.Asc.{freq_bits, tail_bits, front_bits, under_bits, asc_bits}
use Rattle.config.specs.Mux.{config_bits, frame_length_bits, layer_bits, layers_bits, programs_bits}
use Rattle.config.specs.Mux.{mux_head_bits, mux_ending_bits, mux_bits}
use Rattle.writer.specs.Written.{bits_in, ones_bits, length_bits, lengths_bits, payload_pieces, sum_of, subframe_pieces}
use Rattle.writer.specs.Write.{row_fits, slots_fit}
use Rattle.worked.specs.Writing.{WorkedWriting}

pub worked_writing : WorkedWriting
unfolding odd bits_of number unpack pack tab all_of streams_in value_bits freq_bits tail_bits front_bits under_bits asc_bits
    config_bits frame_length_bits layer_bits layers_bits
    programs_bits mux_head_bits mux_ending_bits mux_bits bits_in ones_bits length_bits lengths_bits payload_pieces sum_of
    subframe_pieces row_fits slots_fit
worked_writing = ((refl, refl), (refl, refl), (refl, refl), (refl, refl), (refl, refl), (refl, refl))
