-- What is read up to each edge, and refused beyond it, beside the cases that document 01 marks P: so that a bound, a
-- range, a width or a number that is wrong in reader, writer and 16 alike is refused. tests/edge_cases.py lays them
-- out. proofs/Edges.antt has the theorem.
use Rattle.std.specs.Prelude.{true, List, [], ◌∷◌, ℕ, replicate}
use Rattle.records.specs.declared.Freq.{Freq}
use Rattle.records.specs.declared.Freq.TheVariants.{Index, Hz}
use Rattle.records.specs.declared.Form.TheVariants.{None}
use Rattle.records.specs.declared.Stream.{Stream}
use Rattle.records.specs.declared.Record.{Record}
use Rattle.records.specs.Blank.{no_stream}
use Rattle.element.specs.Reply.{accepts}
use Rattle.worked.specs.Worked.{Case, element, stopped, row, AllComeOut, at, minus_one, figures, version_one, nothing_held}
use Rattle.worked.specs.Worked.{holds}

-- a stream by its core type, frequency, channel configuration and frameLengthFlag, of slots by length bytes
abbrev sized_by : ℕ → Freq → ℕ → ℕ → ℕ → Stream
sized_by core freq channels flag fullness = record {
  config =
      record { core = core; freq = freq; channels = channels; flag = flag; depends = 0; extension = 0; form = None };
  kind = 0;
  fullness = fullness;
  fixed = 0;
}

-- 16 streams in two programs: every core type, every frequency by its index and both ends of 24 bits, every channel
-- configuration; the last of slots of 20 bytes
abbrev wide : Record
wide = record {
  version = 0;
  subversion = 0;
  tara = 0;
  framing = 1;
  subframes = 1;
  programs = 1;
  layers = 7 ∷ 7 ∷ replicate 14 0;
  streams =
      sized_by 1 (Index 0) 1 0 0 ∷ sized_by 2 (Index 1) 2 1 17 ∷ sized_by 3 (Index 2) 3 0 34 ∷ sized_by 4 (Index 3) 4 1 51
      ∷ sized_by 1 (Index 4) 5 0 68 ∷ sized_by 2 (Index 5) 6 1 85 ∷ sized_by 3 (Index 6) 7 0 102
      ∷ sized_by 4 (Index 7) 1 1 119
      ∷ sized_by 1 (Index 8) 2 0 136 ∷ sized_by 2 (Index 9) 3 1 153 ∷ sized_by 3 (Index 10) 4 0 170
      ∷ sized_by 4 (Index 11) 5 1 187
      ∷ sized_by 1 (Index 12) 6 0 204 ∷ sized_by 2 (Hz 1) 7 1 221 ∷ sized_by 3 (Hz 16777215) 1 0 238
      ∷ record { config = (sized_by 4 (Index 0) 2 1 0).config; kind = 1; fullness = 0; fixed = 0 } ∷ [];
  other = 0;
  bits = 0;
  checked = 0;
  crc = 0;
}

abbrev wide_bytes : List ℕ
wide_bytes =
    0x20 ∷ 0x8F ∷ 0x08 ∷ 0x08 ∷ 0x00 ∷ 0x01 ∷ 0x09 ∷ 0x40 ∷ 0x22 ∷ 0x19 ∷ 0x18 ∷ 0x04 ∷ 0x42 ∷ 0x1A ∷ 0x40 ∷ 0x66
    ∷ 0x0A ∷ 0x28 ∷ 0x08 ∷ 0x81 ∷ 0x2B ∷ 0x40 ∷ 0xAA ∷ 0x1B ∷ 0x38 ∷ 0x0C ∷ 0xC2 ∷ 0x38 ∷ 0xC0 ∷ 0xEF ∷ 0xC1 ∷ 0x82
    ∷ 0x02 ∷ 0x20 ∷ 0x29 ∷ 0x38 ∷ 0x26 ∷ 0x43 ∷ 0xA4 ∷ 0x02 ∷ 0xA8 ∷ 0x4B ∷ 0x58 ∷ 0x2E ∷ 0xC1 ∷ 0xC6 ∷ 0x03 ∷ 0x30
    ∷ 0x2F ∷ 0x00 ∷ 0x00 ∷ 0x01 ∷ 0x78 ∷ 0x37 ∷ 0x43 ∷ 0xFF ∷ 0xFF ∷ 0xFF ∷ 0xF1 ∷ 0x03 ∷ 0xB8 ∷ 0x40 ∷ 0x28 ∷ 0x40
    ∷ 0x00 ∷ 0x00 ∷ 0x00 ∷ 0x00 ∷ 0x00 ∷ 0x00 ∷ 0x00 ∷ 0x00 ∷ 0x00 ∷ 0x00 ∷ 0x00 ∷ 0x00 ∷ 0x00 ∷ 0x00 ∷ 0x00 ∷ 0x00
    ∷ 0x00 ∷ 0x08 ∷ 0x10 ∷ 0x18 ∷ 0x20 ∷ 0x28 ∷ 0x30 ∷ 0x38 ∷ 0x40 ∷ 0x48 ∷ 0x50 ∷ 0x58 ∷ 0x60 ∷ 0x68 ∷ 0x70 ∷ 0x78
    ∷ 0x80 ∷ 0x88 ∷ 0x90 ∷ 0x98 ∷ 0x00 ∷ 0x00 ∷ 0x00 ∷ 0x00 ∷ 0x00 ∷ 0x00 ∷ 0x00 ∷ 0x00 ∷ 0x00 ∷ 0x00 ∷ 0x00 ∷ 0x00
    ∷ 0x00 ∷ 0x00 ∷ 0x00 ∷ 0x00 ∷ 0x08 ∷ 0x10 ∷ 0x18 ∷ 0x20 ∷ 0x28 ∷ 0x30 ∷ 0x38 ∷ 0x40 ∷ 0x48 ∷ 0x50 ∷ 0x58 ∷ 0x60
    ∷ 0x68 ∷ 0x70 ∷ 0x78 ∷ 0x80 ∷ 0x88 ∷ 0x90 ∷ 0x98 ∷ []

abbrev wide_map : List ℕ
wide_map =
    1 ∷ 0 ∷ 0 ∷ 1 ∷ 2 ∷ 0 ∷ 1 ∷ 516 ∷ 3 ∷ 0 ∷ 517 ∷ 120 ∷ 4 ∷ 0 ∷ 637 ∷ 0 ∷ 4 ∷ 1 ∷ 637 ∷ 0 ∷ 4 ∷ 2 ∷ 637 ∷ 0 ∷ 4 ∷ 3
    ∷ 637 ∷ 0 ∷ 4 ∷ 4 ∷ 637 ∷ 0 ∷ 4 ∷ 5 ∷ 637 ∷ 0 ∷ 4 ∷ 6 ∷ 637 ∷ 0 ∷ 4 ∷ 7 ∷ 637 ∷ 0 ∷ 4 ∷ 8 ∷ 637 ∷ 0 ∷ 4 ∷ 9 ∷ 637
    ∷ 0 ∷ 4 ∷ 10 ∷ 637 ∷ 0 ∷ 4 ∷ 11 ∷ 637 ∷ 0 ∷ 4 ∷ 12 ∷ 637 ∷ 0 ∷ 4 ∷ 13 ∷ 637 ∷ 0 ∷ 4 ∷ 14 ∷ 637 ∷ 0 ∷ 4 ∷ 15 ∷ 637
    ∷ 160 ∷ 3 ∷ 0 ∷ 797 ∷ 120 ∷ 4 ∷ 0 ∷ 917 ∷ 0 ∷ 4 ∷ 1 ∷ 917 ∷ 0 ∷ 4 ∷ 2 ∷ 917 ∷ 0 ∷ 4 ∷ 3 ∷ 917 ∷ 0 ∷ 4 ∷ 4 ∷ 917
    ∷ 0 ∷ 4 ∷ 5 ∷ 917 ∷ 0 ∷ 4 ∷ 6 ∷ 917 ∷ 0 ∷ 4 ∷ 7 ∷ 917 ∷ 0 ∷ 4 ∷ 8 ∷ 917 ∷ 0 ∷ 4 ∷ 9 ∷ 917 ∷ 0 ∷ 4 ∷ 10 ∷ 917 ∷ 0
    ∷ 4 ∷ 11 ∷ 917 ∷ 0 ∷ 4 ∷ 12 ∷ 917 ∷ 0 ∷ 4 ∷ 13 ∷ 917 ∷ 0 ∷ 4 ∷ 14 ∷ 917 ∷ 0 ∷ 4 ∷ 15 ∷ 917 ∷ 160 ∷ 6 ∷ 0 ∷ 1077
    ∷ 3 ∷ []

-- one stream of type 2, 48000 Hz, 2 channels
abbrev single : ℕ → ℕ → ℕ → ℕ → ℕ → ℕ → Record
single version tara other bits checked crc = record {
  version = version;
  subversion = 0;
  tara = tara;
  framing = 1;
  subframes = 0;
  programs = 0;
  layers = replicate 16 0;
  streams = sized_by 2 (Index 3) 2 0 255 ∷ replicate 15 no_stream;
  other = other;
  bits = bits;
  checked = checked;
  crc = crc;
}

abbrev narrow : Record
narrow = version_one 0 (replicate 16 0) (sized_by 2 (Index 6) 1 0 255 ∷ replicate 15 no_stream)

-- the cases
unfoldable pub edges : List Case
edges =
    element wide_bytes nothing_held (accepts 37 184 true) (holds wide) wide_map
    ∷ row wide 0 0 (figures 0 0 1 96000 96000 minus_one minus_one 1)
    ∷ row wide 0 1 (figures 0 1 2 88200 88200 minus_one minus_one 2)
    ∷ row wide 0 2 (figures 0 2 3 64000 64000 minus_one minus_one 3)
    ∷ row wide 0 3 (figures 0 3 4 48000 48000 minus_one minus_one 4)
    ∷ row wide 0 4 (figures 0 4 1 44100 44100 minus_one minus_one 5)
    ∷ row wide 0 5 (figures 0 5 2 32000 32000 minus_one minus_one 6)
    ∷ row wide 0 6 (figures 0 6 3 24000 24000 minus_one minus_one 8)
    ∷ row wide 0 7 (figures 0 7 4 22050 22050 minus_one minus_one 1)
    ∷ row wide 1 0 (figures 1 0 1 16000 16000 minus_one minus_one 2)
    ∷ row wide 1 1 (figures 1 1 2 12000 12000 minus_one minus_one 3)
    ∷ row wide 1 2 (figures 1 2 3 11025 11025 minus_one minus_one 4)
    ∷ row wide 1 3 (figures 1 3 4 8000 8000 minus_one minus_one 5)
    ∷ row wide 1 4 (figures 1 4 1 7350 7350 minus_one minus_one 6)
    ∷ row wide 1 5 (figures 1 5 2 1 1 minus_one minus_one 8)
    ∷ row wide 1 6 (figures 1 6 3 16777215 16777215 minus_one minus_one 1)
    ∷ row wide 1 7 (figures 1 7 4 96000 96000 minus_one minus_one 2)
    -- three bits of other data in two groups where one is enough, and a checksum
    ∷ element (0x20 ∷ 0x00 ∷ 0x11 ∷ 0x90 ∷ 0x1F ∷ 0xF8 ∷ 0x00 ∷ 0x0E ∷ 0xB4 ∷ 0x03 ∷ 0x57 ∷ 0x40 ∷ []) nothing_held
    (accepts 6 22 true) (holds (single 0 0 1 3 1 0x5A))
    (1 ∷ 0 ∷ 0 ∷ 1 ∷ 2 ∷ 0 ∷ 1 ∷ 70 ∷ 3 ∷ 0 ∷ 71 ∷ 8 ∷ 4 ∷ 0 ∷ 79 ∷ 8 ∷ 5 ∷ 0 ∷ 87 ∷ 3 ∷ 6 ∷ 0 ∷ 90 ∷ 6 ∷ [])
    -- version 1, its values in two bytes where one is enough
    ∷ element (0x48 ∷ 0x00 ∷ 0x3C ∷ 0x00 ∷ 0x08 ∷ 0x00 ∷ 0x80 ∷ 0x8C ∷ 0x80 ∷ 0xFF ∷ 0xA0 ∷ 0x00 ∷ 0xA0 ∷ 0x1A ∷ 0xB4
    ∷ 0x80 ∷ []) nothing_held (accepts 6 27 true) (holds (single 1 7 1 5 0 0))
    (1 ∷ 0 ∷ 0 ∷ 1 ∷ 2 ∷ 0 ∷ 1 ∷ 99 ∷ 3 ∷ 0 ∷ 100 ∷ 8 ∷ 4 ∷ 0 ∷ 108 ∷ 8 ∷ 5 ∷ 0 ∷ 116 ∷ 5 ∷ 6 ∷ 0 ∷ 121 ∷ 7 ∷ [])
    -- an extension type of 6 says nothing
    ∷ element (0x40 ∷ 0x04 ∷ 0x00 ∷ 0x01 ∷ 0x00 ∷ 0x98 ∷ 0x42 ∷ 0xB7 ∷ 0x30 ∷ 0xFF ∷ 0x00 ∷ 0x00 ∷ []) nothing_held
    (accepts 5 24 true) (holds narrow)
    (1 ∷ 0 ∷ 0 ∷ 1 ∷ 2 ∷ 0 ∷ 1 ∷ 81 ∷ 3 ∷ 0 ∷ 82 ∷ 8 ∷ 4 ∷ 0 ∷ 90 ∷ 0 ∷ 6 ∷ 0 ∷ 90 ∷ 6 ∷ [])
    -- 1 and 2
    ∷ stopped (0x80 ∷ 0x00 ∷ []) 4367 (at 1 0 0)
    ∷ stopped [] 4368 (at 2 0 0)
    ∷ stopped (replicate 8192 0) 4368 (at 2 0 0)
    -- 5: audioMuxVersionA 1
    ∷ stopped (0x60 ∷ 0x04 ∷ 0x00 ∷ 0x00 ∷ 0x80 ∷ 0x8C ∷ 0x80 ∷ 0xFF ∷ 0x00 ∷ []) 4368 (at 5 2 3)
    -- 6: allStreamsSameTimeFraming 0
    ∷ stopped (0x00 ∷ 0x00 ∷ 0x11 ∷ 0x90 ∷ 0x1F ∷ 0xE0 ∷ []) 4368 (at 6 2 3)
    -- 7: 17 streams
    ∷ stopped (0x20 ∷ 0x17 ∷ 0x11 ∷ 0x90 ∷ 0x1F ∷ 0xF1 ∷ 0xFF ∷ 0x1F ∷ 0xF1 ∷ 0xFF ∷ 0x1F ∷ 0xF1 ∷ 0xFF ∷ 0x1F ∷ 0xF1
    ∷ 0xFF ∷ 0xE3 ∷ 0xFE ∷ 0x3F ∷ 0xE3 ∷ 0xFE ∷ 0x3F ∷ 0xE3 ∷ 0xFE ∷ 0x3F ∷ 0xE3 ∷ 0xFE ∷ 0x3F ∷ 0xC4 ∷ []) 4368
    (at 7 226 61)
    -- 8: type 0, type 6, type 30, and type 32 behind an escape
    ∷ stopped (0x20 ∷ 0x00 ∷ 0x01 ∷ 0x90 ∷ 0x1F ∷ 0xE0 ∷ []) 4368 (at 8 16 7)
    ∷ stopped (0x20 ∷ 0x00 ∷ 0x31 ∷ 0x90 ∷ 0x1F ∷ 0xE0 ∷ []) 4368 (at 8 16 7)
    ∷ stopped (0x20 ∷ 0x00 ∷ 0xF1 ∷ 0x90 ∷ 0x1F ∷ 0xE0 ∷ []) 4368 (at 8 16 7)
    ∷ stopped (0x20 ∷ 0x00 ∷ 0xF8 ∷ 0x06 ∷ 0x40 ∷ 0x7F ∷ 0x80 ∷ []) 4368 (at 8 16 8)
    -- 8: type 5 under type 5
    ∷ stopped (0x20 ∷ 0x00 ∷ 0x29 ∷ 0x91 ∷ 0x94 ∷ 0x0F ∷ 0xF0 ∷ []) 4368 (at 8 33 11)
    -- 8: extension type 22
    ∷ stopped (0x40 ∷ 0x04 ∷ 0x00 ∷ 0x01 ∷ 0x00 ∷ 0x98 ∷ 0x42 ∷ 0xB7 ∷ 0xB0 ∷ 0xFF ∷ 0x00 ∷ []) 4368 (at 8 64 19)
    -- 9: index 13, index 14, 24 bits of 0
    ∷ stopped (0x20 ∷ 0x00 ∷ 0x16 ∷ 0x90 ∷ 0x1F ∷ 0xE0 ∷ []) 4368 (at 9 21 8)
    ∷ stopped (0x20 ∷ 0x00 ∷ 0x17 ∷ 0x10 ∷ 0x1F ∷ 0xE0 ∷ []) 4368 (at 9 21 8)
    ∷ stopped (0x20 ∷ 0x00 ∷ 0x17 ∷ 0x80 ∷ 0x00 ∷ 0x00 ∷ 0x10 ∷ 0x1F ∷ 0xE0 ∷ []) 4368 (at 9 25 9)
    -- 11: channelConfiguration 0 and 8
    ∷ stopped (0x20 ∷ 0x00 ∷ 0x11 ∷ 0x80 ∷ 0x1F ∷ 0xE0 ∷ []) 4368 (at 11 25 9)
    ∷ stopped (0x20 ∷ 0x00 ∷ 0x11 ∷ 0xC0 ∷ 0x1F ∷ 0xE0 ∷ []) 4368 (at 11 25 9)
    -- 12: dependsOnCoreCoder, extensionFlag
    ∷ stopped (0x20 ∷ 0x00 ∷ 0x11 ∷ 0x92 ∷ 0x1F ∷ 0xE0 ∷ []) 4368 (at 12 30 11)
    ∷ stopped (0x20 ∷ 0x00 ∷ 0x11 ∷ 0x91 ∷ 0x1F ∷ 0xE0 ∷ []) 4368 (at 12 31 12)
    -- 13: frameLengthType 2 and 7
    ∷ stopped (0x20 ∷ 0x00 ∷ 0x11 ∷ 0x90 ∷ 0x40 ∷ []) 4368 (at 13 32 13)
    ∷ stopped (0x20 ∷ 0x00 ∷ 0x11 ∷ 0x90 ∷ 0xE0 ∷ []) 4368 (at 13 32 13)
    -- 14: a fourth group that is continued
    ∷ stopped (0x20 ∷ 0x00 ∷ 0x11 ∷ 0x90 ∷ 0x1F ∷ 0xF8 ∷ 0x04 ∷ 0x02 ∷ 0x01 ∷ 0x03 ∷ 0x00 ∷ []) 4368 (at 14 71 22)
    ∷ []

-- all of them come out
abbrev pub Edges : Type 0
Edges = AllComeOut edges
