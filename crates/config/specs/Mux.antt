-- StreamMuxConfig. What is written for a part is named with `Bits` and stands behind it.
use Rattle.std.specs.Prelude.{Bool, cond, List, [], ℕ, zero, suc, ◌+◌, ◌-◌, leb, eqb, length, get_or, set, replicate}
use Rattle.kernel.specs.declared.Window.TheVariants.{Open, UpTo}
use Rattle.kernel.specs.Bits.{bits_of, ◌⧺◌}
use Rattle.kernel.specs.Reading.{Reading, give, refuse, field, pass, here, choose, need, ◌>>=◌, ◌>>◌}
use Rattle.records.specs.declared.Config.{Config}
use Rattle.records.specs.declared.Stream.{Stream}
use Rattle.records.specs.declared.Record.{Record}
use Rattle.records.specs.Blank.{no_stream}
use Rattle.records.specs.Same.{same_config}
use Rattle.config.specs.declared.Head.{Head}
use Rattle.config.specs.declared.Ending.{Ending}
use Rattle.config.specs.declared.Places.{Places}
use Rattle.numbers.specs.Values.{latm_get_value, value_bits, groups_from, group_bits}
use Rattle.asc.specs.Asc.{audio_specific_config, asc_bits}

-- version 1: ascLen, the configuration in that many bits, and fill up to them
unfoldable pub windowed : Reading Config
windowed = do
  n ← latm_get_value
  p ← here
  c ← audio_specific_config (UpTo (p + n))
  q ← here
  pass Open (p + n - q)
  give c

-- AudioSpecificConfig as the version sends it
unfoldable pub configuration : ℕ → Reading Config
configuration version = choose (eqb version 1) windowed (audio_specific_config Open)

-- as it is written: in version 1 behind its length, without fill
unfoldable pub config_bits : ℕ → Config → List Bool
config_bits version c = cond (eqb version 1) (value_bits (length (asc_bits c)) ⧺ asc_bits c) (asc_bits c)

-- frameLengthType, and latmBufferFullness or frameLength
unfoldable pub frame_length : Config → Reading Stream
frame_length c = do
  t ← field Open 3
  choose (eqb t 0) (field Open 8 >>= λ v. give (record { config = c; kind = 0; fullness = v; fixed = 0 }))
      (choose (eqb t 1) (field Open 9 >>= λ l. give (record { config = c; kind = 1; fullness = 0; fixed = l }))
      (refuse 13 3))

-- as it is written
unfoldable pub frame_length_bits : Stream → List Bool
frame_length_bits s = bits_of 3 s.kind ⧺ cond (eqb s.kind 0) (bits_of 8 s.fullness) (bits_of 9 s.fixed)

-- useSameConfig: that of the stream just before in reading order; stream 0 sends none
unfoldable pub sent_or_same : ℕ → Config → Reading Config
sent_or_same version before = do
  same ← field Open 1
  choose (eqb same 1) (give before) (configuration version)

-- the layer that is stream `next`, after one configured so
unfoldable pub layer : ℕ → ℕ → Config → Reading Stream
layer version next before = do
  c ← choose (eqb next 0) (configuration version) (sent_or_same version before)
  frame_length c

-- as it is written: useSameConfig is 1 wherever it can be
unfoldable pub layer_bits : ℕ → ℕ → Config → Stream → List Bool
layer_bits version next before s =
    cond (eqb next 0) (config_bits version s.config)
    (cond (same_config before s.config) (bits_of 1 1) (bits_of 1 0 ⧺ config_bits version s.config))
    ⧺ frame_length_bits s

-- the configuration of stream i
abbrev pub config_at : List Stream → ℕ → Config
config_at streams i = (get_or streams i no_stream).config

-- n layers, of which the first is stream `next`
unfoldable pub layers : ℕ → ℕ → ℕ → List Stream → Reading (List Stream)
layers version zero next streams = give streams
layers version (suc n) next streams = do
  s ← layer version next (config_at streams (next - 1))
  layers version n (next + 1) (set streams next s)

-- as they are written
unfoldable pub layers_bits : ℕ → ℕ → ℕ → List Stream → List Bool
layers_bits version zero next streams = []
layers_bits version (suc n) next streams =
    layer_bits version next (config_at streams (next - 1)) (get_or streams next no_stream)
    ⧺ layers_bits version n (next + 1) streams

-- of a program whose first layer is stream `next`; at most 16 streams
unfoldable pub num_layer : ℕ → Reading ℕ
num_layer next = do
  k ← field Open 3
  need (leb (next + (k + 1)) 16) 7 3
  give k

-- n programs from program p on, of which the first layer is stream `next`
unfoldable pub programs : ℕ → ℕ → ℕ → ℕ → Places → Reading Places
programs version zero p next places = give places
programs version (suc n) p next places = do
  k ← num_layer next
  streams ← layers version (k + 1) next places.streams
  programs version n (p + 1) (next + (k + 1)) (record { layers = set places.layers p k; streams = streams })

-- as they are written, each with its numLayer
unfoldable pub programs_bits : ℕ → ℕ → ℕ → ℕ → List ℕ → List Stream → List Bool
programs_bits version zero p next ks streams = []
programs_bits version (suc n) p next ks streams =
    bits_of 3 (get_or ks p 0) ⧺ layers_bits version (get_or ks p 0 + 1) next streams
    ⧺ programs_bits version n (p + 1) (next + (get_or ks p 0 + 1)) ks streams

-- audioMuxVersionA, of version 1
unfoldable pub mux_version_a : Reading ℕ
mux_version_a = do
  a ← field Open 1
  need (eqb a 0) 5 1
  give a

-- up to numProgram
unfoldable pub mux_head : Reading Head
mux_head = do
  version ← field Open 1
  subversion ← choose (eqb version 1) mux_version_a (give 0)
  tara ← choose (eqb version 1) latm_get_value (give 0)
  framing ← field Open 1
  need (eqb framing 1) 6 1
  subframes ← field Open 6
  n ← field Open 4
  give (record {
    version = version;
    subversion = subversion;
    tara = tara;
    framing = framing;
    subframes = subframes;
    programs = n;
  })

-- as it is written
unfoldable pub mux_head_bits : Record → List Bool
mux_head_bits r =
    bits_of 1 r.version ⧺ cond (eqb r.version 1) (bits_of 1 r.subversion) []
    ⧺ cond (eqb r.version 1) (value_bits r.tara) []
    ⧺ bits_of 1 r.framing ⧺ bits_of 6 r.subframes ⧺ bits_of 4 r.programs

-- otherDataLenBits: LatmGetValue in version 1, and groups in version 0
unfoldable pub other_length : ℕ → Reading ℕ
other_length version = choose (eqb version 1) latm_get_value (groups_from 4 0)

-- from otherDataPresent on
unfoldable pub mux_ending : ℕ → Reading Ending
mux_ending version = do
  other ← field Open 1
  bits ← choose (eqb other 1) (other_length version) (give 0)
  checked ← field Open 1
  crc ← choose (eqb checked 1) (field Open 8) (give 0)
  give (record { other = other; bits = bits; checked = checked; crc = crc })

-- as it is written
unfoldable pub mux_ending_bits : Record → List Bool
mux_ending_bits r =
    bits_of 1 r.other ⧺ cond (eqb r.other 1)
    (cond (eqb r.version 1) (value_bits r.bits) (group_bits r.bits)) []
    ⧺ bits_of 1 r.checked ⧺ cond (eqb r.checked 1) (bits_of 8 r.crc) []

-- nothing read yet of programs and streams
abbrev pub no_places : Places
no_places = record { layers = replicate 16 0; streams = replicate 16 no_stream }

-- the record of its three parts
abbrev pub record_of : Head → Places → Ending → Record
record_of h g t = record {
  version = h.version;
  subversion = h.subversion;
  tara = h.tara;
  framing = h.framing;
  subframes = h.subframes;
  programs = h.programs;
  layers = g.layers;
  streams = g.streams;
  other = t.other;
  bits = t.bits;
  checked = t.checked;
  crc = t.crc;
}

-- StreamMuxConfig
unfoldable pub stream_mux_config : Reading Record
stream_mux_config = do
  h ← mux_head
  g ← programs h.version (h.programs + 1) 0 0 no_places
  t ← mux_ending h.version
  give (record_of h g t)

-- a record as it is written
unfoldable pub mux_bits : Record → List Bool
mux_bits r = mux_head_bits r ⧺ programs_bits r.version (r.programs + 1) 0 0 r.layers r.streams ⧺ mux_ending_bits r
