-- The records that may be written and held: all that refusal 16 does not refuse.
use Rattle.std.specs.Prelude.{Bool, true, false, cond, ◌&&◌, ◌||◌, List, ℕ, get_or, leb, ltb, eqb}
use Rattle.kernel.specs.Lists.{all_of}
use Rattle.records.specs.declared.Freq.{Freq}
use Rattle.records.specs.declared.Freq.TheVariants.{Index, Hz}
use Rattle.records.specs.declared.Form.{Form}
use Rattle.records.specs.declared.Form.TheVariants.{None, Type5, Type29, Flag0, Flag1, FlagPs}
use Rattle.records.specs.declared.Config.{Config}
use Rattle.records.specs.declared.Stream.{Stream}
use Rattle.records.specs.declared.Record.{Record}
use Rattle.records.specs.Blank.{no_stream}
use Rattle.records.specs.Table.{streams_in}

-- 9: an index 0 to 12, or 24 bits that are not 0
abbrev pub valid_freq : Freq → Bool
valid_freq (Index i) = leb i 12
valid_freq (Hz h) = leb 1 h && leb h 16777215

-- a form after 0x2B7 stands in version 1 alone
abbrev pub valid_form : ℕ → Form → Bool
valid_form version None = true
valid_form version (Type5 x) = valid_freq x
valid_form version (Type29 x) = valid_freq x
valid_form version Flag0 = eqb version 1
valid_form version (Flag1 x) = eqb version 1 && valid_freq x
valid_form version (FlagPs x b) = eqb version 1 && valid_freq x && leb b 1

-- 8, 9, 11 and 12
abbrev pub valid_config : ℕ → Config → Bool
valid_config version c =
    leb 1 c.core && leb c.core 4 && leb 1 c.channels && leb c.channels 7 && leb c.flag 1
    && eqb c.depends 0 && eqb c.extension 0
    && valid_freq c.freq && valid_form version c.form

-- 13: type 0 with latmBufferFullness, or type 1 with frameLength
abbrev pub valid_fixed : ℕ → ℕ → ℕ → Bool
valid_fixed kind fullness fixed =
    (eqb kind 0 && leb fullness 255 && eqb fixed 0) || (eqb kind 1 && eqb fullness 0 && leb fixed 511)

-- a stream that is sent
abbrev pub valid_stream : ℕ → Stream → Bool
valid_stream version s = valid_config version s.config && valid_fixed s.kind s.fullness s.fixed

-- what stands where nothing is sent: of a frequency index 0,
abbrev pub blank_freq : Freq → Bool
blank_freq (Index i) = eqb i 0
blank_freq (Hz h) = false

-- of a form none,
abbrev pub blank_form : Form → Bool
blank_form None = true
blank_form (Type5 x) = false
blank_form (Type29 x) = false
blank_form Flag0 = false
blank_form (Flag1 x) = false
blank_form (FlagPs x b) = false

-- and of a stream 0 everywhere
abbrev pub blank_stream : Stream → Bool
blank_stream s =
    eqb s.config.core 0 && eqb s.config.channels 0 && eqb s.config.flag 0 && eqb s.config.depends 0
    && eqb s.config.extension 0
    && eqb s.kind 0 && eqb s.fullness 0 && eqb s.fixed 0 && blank_freq s.config.freq
    && blank_form s.config.form

-- of numProgram n: a numLayer of three bits for each program, 0 past them
abbrev pub layer_ok : ℕ → ℕ → ℕ → Bool
layer_ok n p x = cond (leb p n) (leb x 7) (eqb x 0)

-- of all 16 programs
abbrev pub layers_ok : List ℕ → ℕ → Bool
layers_ok layers n = all_of 16 λ p. layer_ok n p (get_or layers p 0)

-- k streams that are sent, and none past them
abbrev pub stream_ok : ℕ → ℕ → ℕ → Stream → Bool
stream_ok version k i s = cond (ltb i k) (valid_stream version s) (blank_stream s)

-- of all 16 streams
abbrev pub streams_ok : ℕ → ℕ → List Stream → Bool
streams_ok version k streams = all_of 16 λ i. stream_ok version k i (get_or streams i no_stream)

-- 5 and 6
abbrev pub head_ok : Record → Bool
head_ok r =
    leb r.version 1 && eqb r.subversion 0 && (eqb r.version 1 || eqb r.tara 0) && eqb r.framing 1
    && leb r.subframes 63 && leb r.programs 15

-- other data and checksum: flags of one bit, and 0 where they say that nothing is sent
abbrev pub ending_ok : Record → Bool
ending_ok r =
    leb r.other 1 && (eqb r.other 1 || eqb r.bits 0) && leb r.checked 1
    && (eqb r.checked 1 || eqb r.crc 0) && leb r.crc 255

-- 7: at most 16 streams
abbrev pub valid_of : Record → Bool
valid_of r =
    head_ok r && ending_ok r && layers_ok r.layers r.programs && leb (streams_in r.layers r.programs 16) 16
    && streams_ok r.version (streams_in r.layers r.programs 16) r.streams
