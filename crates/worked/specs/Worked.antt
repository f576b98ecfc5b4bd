-- The cases that document 01 marks P, in one table, and the claim that they come out as it says. proofs/Worked.antt has
-- the theorem.
use Rattle.std.specs.Prelude.{◌≡◌, true, false, Some, None, Result, Ok, Err, List, [], ◌∷◌, ◌++◌, ℕ, ◌-◌, ℤ, pos, negsuc, length, drop, replicate}
use Rattle.kernel.specs.declared.Window.TheVariants.{UpTo}
use Rattle.kernel.specs.declared.Cursor.{Cursor}
use Rattle.kernel.specs.declared.Read.{Read}
use Rattle.kernel.specs.declared.Refusal.{Refusal}
use Rattle.kernel.specs.Bits.{value_at}
use Rattle.kernel.specs.Reading.{refused_at}
use Rattle.kernel.specs.Answer.{told}
use Rattle.records.specs.declared.Freq.{Freq}
use Rattle.records.specs.declared.Freq.TheVariants.{Index, Hz}
use Rattle.records.specs.declared.Form.{Form}
use Rattle.records.specs.declared.Form.TheVariants.{None, Type5, Type29, Flag0, Flag1, FlagPs}
use Rattle.records.specs.declared.Config.{Config}
use Rattle.records.specs.declared.Stream.{Stream}
use Rattle.records.specs.declared.Record.{Record}
use Rattle.records.specs.Blank.{no_stream}
use Rattle.records.specs.Table.{table_of}
use Rattle.row.specs.declared.Row.{Row}
use Rattle.row.specs.Row.{sbr_of, ps_of, row_in}
use Rattle.numbers.specs.Values.{latm_get_value}
use Rattle.asc.specs.Asc.{audio_specific_config}
use Rattle.config.specs.Mux.{windowed}
use Rattle.element.specs.declared.Accepted.{Accepted}
use Rattle.element.specs.Held.{Held, held_if}
use Rattle.element.specs.Reply.{answer, accepts, verdict_of, reply_of, map_after}

-- element s held v then map: the element s with `held` held has the verdict v and the map `map`, in which other numbers
-- stay, and `then` is held after it.
-- stopped s room r: the element s, with nothing held and a map of so many numbers, is refused by r.
-- bits s p w v: the w bits of s from bit p on have the value v.
-- row r p l x: layer l of program p in the record r has the row x.
-- variable s v at n: s begins with the variable value v, which ends at bit `at` and has n fields.
-- ascLen len s form sbr ps fill at n: s begins with ascLen len and a configuration of that form, with that SBR and PS;
-- its bits of fill, its end, the fields.
-- refused len s r: s begins with ascLen len, and then the refusal r is met.
pub data Case : Type 0 where
  element : List ℕ → Held → Result Accepted Refusal → Held → List ℕ → Case
  stopped : List ℕ → ℕ → Refusal → Case
  bits : List ℕ → ℕ → ℕ → ℕ → Case
  row : Record → ℕ → ℕ → Row → Case
  variable : List ℕ → ℕ → ℕ → ℕ → Case
  asc_len : ℕ → List ℕ → Form → ℤ → ℤ → ℕ → ℕ → ℕ → Case
  refused : ℕ → List ℕ → Refusal → Case

-- a bit, and the fields read before it
abbrev from : ℕ → ℕ → Cursor
from at n = record { at = at; fields = n }

-- a value, and where the reading of it ends
abbrev read : {A : Type 0} → A → ℕ → ℕ → Result (Read A) Refusal
read v at n = Ok (record { value = v; next = from at n })

-- nothing is held
abbrev pub nothing_held : Held
nothing_held = None

-- a record that is held
abbrev pub holds : Record → Held
holds r = Some r

-- a map of 4,368 numbers, as it was lent
abbrev lent : List ℕ
lent = replicate 4368 7

-- type 2, a frequency, channels and a form
abbrev config_of : Freq → ℕ → Form → Config
config_of freq channels form =
    record { core = 2; freq = freq; channels = channels; flag = 0; depends = 0; extension = 0; form = form }

-- type 2, index 6, channel 1, and a form
abbrev mono_of : Form → Config
mono_of form = config_of (Index 6) 1 form

-- fill is what lies between the end of the fields and the end of ascLen, which stands in 10 bits
abbrev pub ComesOut : Case → Type 0
ComesOut (element s held v then map) =
    (reply_of s held (length lent) ≡ record { verdict = v; held = then })
    × (map_after lent (answer s held (length lent)) ≡ map ++ drop (length map) lent)
ComesOut (stopped s room r) = verdict_of (answer s nothing_held room) ≡ Err r
ComesOut (bits s p w v) = value_at s p w ≡ v
ComesOut (row r p l x) = row_in r (table_of r.layers r.programs) p l ≡ Some x
ComesOut (variable s v at n) = told s latm_get_value (from 0 0) ≡ read v at n
ComesOut (asc_len len s form sbr ps fill at n) =
    (told s latm_get_value (from 0 0) ≡ read len 10 2)
    × (told s (audio_specific_config (UpTo at)) (from 10 2) ≡ read (mono_of form) (at - fill) n)
    × (told s windowed (from 0 0) ≡ read (mono_of form) at n)
    × (sbr_of form ≡ sbr) × (ps_of form ≡ ps)
ComesOut (refused len s r) = (told s latm_get_value (from 0 0) ≡ read len 10 2) × (told s windowed (from 0 0) ≡ Err r)

-- and all of several cases
unfoldable pub AllComeOut : List Case → Type 0
AllComeOut [] = Unit {0}
AllComeOut (c ∷ cs) = ComesOut c × AllComeOut cs

-- as the cases write it
abbrev pub at : ℕ → ℕ → ℕ → Refusal
at = refused_at

-- no flag was sent
abbrev pub minus_one : ℤ
minus_one = negsuc 0

-- the first element of the listing,
abbrev pub first_bytes : List ℕ
first_bytes = 0x20 ∷ 0x00 ∷ 0x11 ∷ 0x90 ∷ 0x1F ∷ 0xE0 ∷ 0x15 ∷ 0x5E ∷ 0x68 ∷ []

-- and its configuration
abbrev pub first : Record
first = record {
  version = 0;
  subversion = 0;
  tara = 0;
  framing = 1;
  subframes = 0;
  programs = 0;
  layers = replicate 16 0;
  streams =
      record {
        config = record { core = 2; freq = Index 3; channels = 2; flag = 0; depends = 0; extension = 0; form = None };
        kind = 0;
        fullness = 255;
        fixed = 0;
      } ∷ replicate 15 no_stream;
  other = 0;
  bits = 0;
  checked = 0;
  crc = 0;
}

-- version 1, with so many programs after the first
abbrev pub version_one : ℕ → List ℕ → List Stream → Record
version_one programs layers streams = record {
  version = 1;
  subversion = 0;
  tara = 0;
  framing = 1;
  subframes = 0;
  programs = programs;
  layers = layers;
  streams = streams;
  other = 0;
  bits = 0;
  checked = 0;
  crc = 0;
}

-- its slots by length bytes, latmBufferFullness 255
abbrev pub sized : Config → Stream
sized config = record { config = config; kind = 0; fullness = 255; fixed = 0 }

abbrev one_stream : Config → Record
one_stream config = version_one 0 (replicate 16 0) (sized config ∷ replicate 15 no_stream)

abbrev mono : Form → Record
mono form = one_stream (mono_of form)

abbrev stereo : Form → Record
stereo form = one_stream (config_of (Index 6) 2 form)

-- a stream of each form, in two programs of three and four layers
abbrev pub forms : Record
forms = version_one 1 (2 ∷ 3 ∷ replicate 14 0) (
    sized (config_of (Index 3) 2 None) ∷ sized (mono_of (Type5 (Index 3)))
    ∷ sized (config_of (Index 7) 1 (Type29 (Index 4)))
    ∷ sized (mono_of Flag0) ∷ sized (mono_of (Flag1 (Index 3))) ∷ sized (config_of (Index 8) 1 (FlagPs (Hz 32001) 0))
    ∷ sized (config_of (Hz 24001) 1 (FlagPs (Index 3) 1)) ∷ replicate 9 no_stream
    )

abbrev forms_bytes : List ℕ
forms_bytes =
    0x40 ∷ 0x04 ∷ 0x01 ∷ 0x40 ∷ 0x80 ∷ 0x8C ∷ 0x80 ∷ 0xFF ∷ 0x03 ∷ 0x25 ∷ 0x61 ∷ 0x31 ∷ 0x01 ∷ 0xFE ∷ 0x06 ∷ 0x7A ∷ 0xE2
    ∷ 0x82 ∷ 0x03 ∷ 0xFD ∷ 0x82 ∷ 0x11 ∷ 0x30 ∷ 0x85 ∷ 0x6E ∷ 0x50 ∷ 0xFF ∷ 0x04 ∷ 0xA2 ∷ 0x61 ∷ 0x0A ∷ 0xDC ∷ 0xB3
    ∷ 0x1F
    ∷ 0xE1 ∷ 0x24 ∷ 0x50 ∷ 0x21 ∷ 0x5B ∷ 0x97 ∷ 0xE0 ∷ 0x0F ∷ 0xA0 ∷ 0x35 ∷ 0x20 ∷ 0x3F ∷ 0xC2 ∷ 0x48 ∷ 0xBC ∷ 0x01
    ∷ 0x77
    ∷ 0x04 ∷ 0x42 ∷ 0xB7 ∷ 0x2C ∷ 0xEA ∷ 0x44 ∷ 0x7F ∷ 0x80 ∷ 0x00 ∷ 0x00 ∷ 0x00 ∷ 0x00 ∷ 0x00 ∷ 0x00 ∷ 0x00 ∷ []

-- program, layer, core type, core and output frequency, SBR, PS, channels
abbrev pub figures : ℕ → ℕ → ℕ → ℕ → ℕ → ℤ → ℤ → ℕ → Row
figures p l core rate output sbr ps channels = record {
  program = p;
  layer = l;
  core = core;
  rate = rate;
  output = output;
  sbr = sbr;
  ps = ps;
  channels = channels;
}

abbrev first_held : Held
first_held = holds first

abbrev first_not_held : Held
first_not_held = held_if false first

-- the cases of document 01, and a stream of each form
unfoldable pub table : List Case
table =
    -- the first element of the listing: items U, C, L, P, A, 17 fields read
    element first_bytes nothing_held (accepts 5 17 true) first_held
    (1 ∷ 0 ∷ 0 ∷ 1 ∷ 2 ∷ 0 ∷ 1 ∷ 44 ∷ 3 ∷ 0 ∷ 45 ∷ 8 ∷ 4 ∷ 0 ∷ 53 ∷ 16 ∷ 6 ∷ 0 ∷ 69 ∷ 3 ∷ [])
    -- its payload is AB CD
    ∷ bits first_bytes 53 16 0xABCD
    -- its stream has type 2, 48000 Hz, 2 channels
    ∷ row first 0 0 (figures 0 0 2 48000 48000 minus_one minus_one 2)
    -- the second: items U, L, P, A, 2 fields read
    ∷ element (0x80 ∷ 0x00 ∷ []) first_held (accepts 4 2 false) first_held (1 ∷ 0 ∷ 0 ∷ 1 ∷ 3 ∷ 0 ∷ 1 ∷ 8 ∷ 4 ∷ 0 ∷ 9
    ∷ 0 ∷ 6 ∷ 0 ∷ 9 ∷ 7 ∷ [])
    -- with nothing held
    ∷ element (0x80 ∷ 0x00 ∷ []) nothing_held (Err (at 4 0 1)) nothing_held []
    -- nor is what stands there held, if it is not present
    ∷ element (0x80 ∷ 0x00 ∷ []) first_not_held (Err (at 4 0 1)) first_not_held []
    -- the length runs out
    ∷ element (0x80 ∷ []) first_held (Err (at 3 1 1)) first_held []
    -- a byte is left
    ∷ element (0x80 ∷ 0x00 ∷ 0x00 ∷ []) first_held (Err (at 15 16 2)) first_held []
    -- bits 01, then bytes 01 00
    ∷ variable (0x40 ∷ 0x40 ∷ 0x00 ∷ []) 256 18 3
    -- type 2, index 6, channel 1, then 0x2B7, type 5, flag 1, index 3: 37 bits
    ∷ asc_len 37 (0x09 ∷ 0x44 ∷ 0xC2 ∷ 0x15 ∷ 0xB9 ∷ 0x66 ∷ []) (Flag1 (Index 3)) (pos 1) minus_one 0 47 12
    -- index 3 passes ascLen
    ∷ refused 36 (0x09 ∷ 0x04 ∷ 0xC2 ∷ 0x15 ∷ 0xB9 ∷ 0x66 ∷ []) (at 10 43 11)
    -- 15 bits are left behind the flags: 0x2B7 is not looked for
    ∷ asc_len 31 (0x07 ∷ 0xC4 ∷ 0xC2 ∷ 0x15 ∷ 0xB9 ∷ 0x66 ∷ []) None minus_one minus_one 15 41 8
    -- 16 bits are left: 0x2B7 and type 5, then flag 1 passes ascLen
    ∷ refused 32 (0x08 ∷ 0x04 ∷ 0xC2 ∷ 0x15 ∷ 0xB9 ∷ 0x66 ∷ []) (at 10 42 10)
    -- with 0x548 and 1 after: 49 bits
    ∷ asc_len 49 (0x0C ∷ 0x44 ∷ 0xC2 ∷ 0x15 ∷ 0xB9 ∷ 0x67 ∷ 0x52 ∷ 0x20 ∷ []) (FlagPs (Index 3) 1) (pos 1)
    (pos 1) 0 59 14
    -- 11 bits are left behind index 3: 0x548 is not looked for
    ∷ asc_len 48 (0x0C ∷ 0x04 ∷ 0xC2 ∷ 0x15 ∷ 0xB9 ∷ 0x67 ∷ 0x52 ∷ 0x20 ∷ []) (Flag1 (Index 3)) (pos 1) minus_one 11 58 12
    -- the same six as whole elements of one stream with the payload AB, and the rows of those that are accepted; ascLen
    -- 37
    ∷ element (0x40 ∷ 0x04 ∷ 0x00 ∷ 0x01 ∷ 0x28 ∷ 0x98 ∷ 0x42 ∷ 0xB7 ∷ 0x2C ∷ 0xC7 ∷ 0xF8 ∷ 0x03 ∷ 0x56
    ∷ []) nothing_held
    (accepts 5 26 true) (holds (mono (Flag1 (Index 3))))
    (1 ∷ 0 ∷ 0 ∷ 1 ∷ 2 ∷ 0 ∷ 1 ∷ 86 ∷ 3 ∷ 0 ∷ 87 ∷ 8 ∷ 4 ∷ 0 ∷ 95 ∷ 8 ∷ 6 ∷ 0 ∷ 103 ∷ 1 ∷ [])
    ∷ row (mono (Flag1 (Index 3))) 0 0 (figures 0 0 2 24000 48000 (pos 1) minus_one 1)
    -- 36
    ∷ element (0x40 ∷ 0x04 ∷ 0x00 ∷ 0x01 ∷ 0x20 ∷ 0x98 ∷ 0x42 ∷ 0xB7 ∷ 0x2C ∷ 0xC7 ∷ 0xF8 ∷ 0x03 ∷ 0x56
    ∷ []) nothing_held
    (Err (at 10 70 20)) nothing_held []
    -- 31
    ∷ element (0x40 ∷ 0x04 ∷ 0x00 ∷ 0x00 ∷ 0xF8 ∷ 0x98 ∷ 0x42 ∷ 0xB7 ∷ 0x21 ∷ 0xFE ∷ 0x00 ∷ 0xD5 ∷ 0x80
    ∷ []) nothing_held
    (accepts 5 22 true) (holds (mono None)) (1 ∷ 0 ∷ 0 ∷ 1 ∷ 2 ∷ 0 ∷ 1 ∷ 80 ∷ 3 ∷ 0 ∷ 81 ∷ 8 ∷ 4 ∷ 0 ∷ 89 ∷ 8 ∷ 6 ∷ 0
    ∷ 97 ∷ 7 ∷ [])
    ∷ row (mono None) 0 0 (figures 0 0 2 24000 24000 minus_one minus_one 1)
    -- 32
    ∷ element (0x40 ∷ 0x04 ∷ 0x00 ∷ 0x01 ∷ 0x00 ∷ 0x98 ∷ 0x42 ∷ 0xB7 ∷ 0x2C ∷ 0xC7 ∷ 0xF8 ∷ 0x03 ∷ 0x56
    ∷ []) nothing_held
    (Err (at 10 69 19)) nothing_held []
    -- 49
    ∷ element (0x40 ∷ 0x04 ∷ 0x00 ∷ 0x01 ∷ 0x88 ∷ 0x98 ∷ 0x42 ∷ 0xB7 ∷ 0x2C ∷ 0xEA ∷ 0x44 ∷ 0x7F ∷ 0x80 ∷ 0x35 ∷ 0x60
    ∷ []) nothing_held
    (accepts 5 28 true) (holds (mono (FlagPs (Index 3) 1)))
    (1 ∷ 0 ∷ 0 ∷ 1 ∷ 2 ∷ 0 ∷ 1 ∷ 98 ∷ 3 ∷ 0 ∷ 99 ∷ 8 ∷ 4 ∷ 0 ∷ 107 ∷ 8 ∷ 6 ∷ 0 ∷ 115 ∷ 5 ∷ [])
    ∷ row (mono (FlagPs (Index 3) 1)) 0 0 (figures 0 0 2 24000 48000 (pos 1) (pos 1) 2)
    -- 48
    ∷ element (0x40 ∷ 0x04 ∷ 0x00 ∷ 0x01 ∷ 0x80 ∷ 0x98 ∷ 0x42 ∷ 0xB7 ∷ 0x2C ∷ 0xEA ∷ 0x40 ∷ 0xFF ∷ 0x00 ∷ 0x6A ∷ 0xC0
    ∷ []) nothing_held
    (accepts 5 26 true) (holds (mono (Flag1 (Index 3))))
    (1 ∷ 0 ∷ 0 ∷ 1 ∷ 2 ∷ 0 ∷ 1 ∷ 97 ∷ 3 ∷ 0 ∷ 98 ∷ 8 ∷ 4 ∷ 0 ∷ 106 ∷ 8 ∷ 6 ∷ 0 ∷ 114 ∷ 6 ∷ [])
    -- a stream of each form, all without payload, and their rows: PS over one channel gives two where type 29 or a flag
    -- of 1 says so, and type 5, a flag of 0 and no flag leave it one
    ∷ element forms_bytes nothing_held (accepts 11 120 true) (holds forms) (
    1 ∷ 0 ∷ 0 ∷ 1 ∷ 2 ∷ 0 ∷ 1 ∷ 466 ∷ 3 ∷ 0 ∷ 467 ∷ 56 ∷ 4 ∷ 0 ∷ 523 ∷ 0 ∷ 4 ∷ 1 ∷ 523 ∷ 0 ∷ 4 ∷ 2 ∷ 523 ∷ 0
    ∷ 4 ∷ 3 ∷ 523 ∷ 0 ∷ 4 ∷ 4 ∷ 523 ∷ 0 ∷ 4 ∷ 5 ∷ 523 ∷ 0 ∷ 4 ∷ 6 ∷ 523 ∷ 0 ∷ 6 ∷ 0 ∷ 523 ∷ 5 ∷ []
    )
    ∷ row forms 0 0 (figures 0 0 2 48000 48000 minus_one minus_one 2)
    ∷ row forms 0 1 (figures 0 1 2 24000 48000 (pos 1) minus_one 1)
    ∷ row forms 0 2 (figures 0 2 2 22050 44100 (pos 1) (pos 1) 2)
    ∷ row forms 1 0 (figures 1 0 2 24000 24000 (pos 0) minus_one 1)
    ∷ row forms 1 1 (figures 1 1 2 24000 48000 (pos 1) minus_one 1)
    ∷ row forms 1 2 (figures 1 2 2 16000 32001 (pos 1) (pos 0) 1)
    ∷ row forms 1 3 (figures 1 3 2 24001 48000 (pos 1) (pos 1) 2)
    -- PS over two channels leaves them two
    ∷ row (stereo (Type29 (Index 3))) 0 0 (figures 0 0 2 24000 48000 (pos 1) (pos 1) 2)
    ∷ row (stereo (FlagPs (Index 3) 1)) 0 0 (figures 0 0 2 24000 48000 (pos 1) (pos 1) 2)
    ∷ []

-- all of them come out
abbrev pub Worked : Type 0
Worked = AllComeOut table
