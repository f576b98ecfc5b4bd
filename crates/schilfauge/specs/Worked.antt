-- The words of a record as they lie, worked out by hand, and the claim that they come out so. proofs/Worked.antt has
-- the theorem.
use Rattle.std.specs.Prelude.{◌≡◌, [], ◌∷◌, ℕ, ◌+◌}
use Rattle.records.specs.declared.Freq.{Freq}
use Rattle.records.specs.declared.Freq.TheVariants.{Index, Hz}
use Rattle.records.specs.declared.Form.{Form}
use Rattle.records.specs.declared.Form.TheVariants.{None, Type5, Type29, Flag0, Flag1, FlagPs}
use Rattle.records.specs.declared.Stream.{Stream}
use Rattle.records.specs.declared.Record.{Record}
use Rattle.record_words.specs.Words.{words_of}

-- a stream whose numbers are those of their words, from word k on
abbrev stream_from : ℕ → Freq → Form → Stream
stream_from k freq form = record {
  config =
      record {
        core = k;
        freq = freq;
        channels = k + 3;
        flag = k + 4;
        depends = k + 5;
        extension = k + 6;
        form = form;
      };
  kind = k + 11;
  fullness = k + 12;
  fixed = k + 13;
}

-- and such a record, with a stream of each form
abbrev numbered : Record
numbered = record {
  version = 0;
  subversion = 1;
  tara = 2;
  framing = 3;
  subframes = 4;
  programs = 5;
  other = 6;
  bits = 7;
  checked = 8;
  crc = 9;
  layers = 10 ∷ 11 ∷ 12 ∷ 13 ∷ 14 ∷ 15 ∷ 16 ∷ 17 ∷ 18 ∷ 19 ∷ 20 ∷ 21 ∷ 22 ∷ 23 ∷ 24 ∷ 25 ∷ [];
  streams =
      stream_from 26 (Index 28) None
      ∷ stream_from 40 (Hz 42) (Type5 (Index 49))
      ∷ stream_from 54 (Index 56) (Type29 (Hz 63))
      ∷ stream_from 68 (Hz 70) Flag0
      ∷ stream_from 82 (Index 84) (Flag1 (Index 91))
      ∷ stream_from 96 (Hz 98) (FlagPs (Hz 105) 106)
      ∷ stream_from 110 (Hz 112) None
      ∷ stream_from 124 (Index 126) None
      ∷ stream_from 138 (Hz 140) None
      ∷ stream_from 152 (Index 154) None
      ∷ stream_from 166 (Hz 168) None
      ∷ stream_from 180 (Index 182) None
      ∷ stream_from 194 (Hz 196) None
      ∷ stream_from 208 (Index 210) None
      ∷ stream_from 222 (Hz 224) None
      ∷ stream_from 236 (Index 238) None
      ∷ [];
}

-- so each word holds its own number, but for the choice of a frequency, the form, and what a form has not
abbrev pub WorkedWords : Type 0
WorkedWords =
    words_of numbered ≡
    0 ∷ 1 ∷ 2 ∷ 3 ∷ 4 ∷ 5 ∷ 6 ∷ 7 ∷ 8 ∷ 9
    ∷ 10 ∷ 11 ∷ 12 ∷ 13 ∷ 14 ∷ 15 ∷ 16 ∷ 17 ∷ 18 ∷ 19 ∷ 20 ∷ 21 ∷ 22 ∷ 23 ∷ 24 ∷ 25
    ∷ 26 ∷ 0 ∷ 28 ∷ 29 ∷ 30 ∷ 31 ∷ 32 ∷ 0 ∷ 0 ∷ 0 ∷ 0 ∷ 37 ∷ 38 ∷ 39
    ∷ 40 ∷ 1 ∷ 42 ∷ 43 ∷ 44 ∷ 45 ∷ 46 ∷ 1 ∷ 0 ∷ 49 ∷ 0 ∷ 51 ∷ 52 ∷ 53
    ∷ 54 ∷ 0 ∷ 56 ∷ 57 ∷ 58 ∷ 59 ∷ 60 ∷ 2 ∷ 1 ∷ 63 ∷ 0 ∷ 65 ∷ 66 ∷ 67
    ∷ 68 ∷ 1 ∷ 70 ∷ 71 ∷ 72 ∷ 73 ∷ 74 ∷ 3 ∷ 0 ∷ 0 ∷ 0 ∷ 79 ∷ 80 ∷ 81
    ∷ 82 ∷ 0 ∷ 84 ∷ 85 ∷ 86 ∷ 87 ∷ 88 ∷ 4 ∷ 0 ∷ 91 ∷ 0 ∷ 93 ∷ 94 ∷ 95
    ∷ 96 ∷ 1 ∷ 98 ∷ 99 ∷ 100 ∷ 101 ∷ 102 ∷ 5 ∷ 1 ∷ 105 ∷ 106 ∷ 107 ∷ 108 ∷ 109
    ∷ 110 ∷ 1 ∷ 112 ∷ 113 ∷ 114 ∷ 115 ∷ 116 ∷ 0 ∷ 0 ∷ 0 ∷ 0 ∷ 121 ∷ 122 ∷ 123
    ∷ 124 ∷ 0 ∷ 126 ∷ 127 ∷ 128 ∷ 129 ∷ 130 ∷ 0 ∷ 0 ∷ 0 ∷ 0 ∷ 135 ∷ 136 ∷ 137
    ∷ 138 ∷ 1 ∷ 140 ∷ 141 ∷ 142 ∷ 143 ∷ 144 ∷ 0 ∷ 0 ∷ 0 ∷ 0 ∷ 149 ∷ 150 ∷ 151
    ∷ 152 ∷ 0 ∷ 154 ∷ 155 ∷ 156 ∷ 157 ∷ 158 ∷ 0 ∷ 0 ∷ 0 ∷ 0 ∷ 163 ∷ 164 ∷ 165
    ∷ 166 ∷ 1 ∷ 168 ∷ 169 ∷ 170 ∷ 171 ∷ 172 ∷ 0 ∷ 0 ∷ 0 ∷ 0 ∷ 177 ∷ 178 ∷ 179
    ∷ 180 ∷ 0 ∷ 182 ∷ 183 ∷ 184 ∷ 185 ∷ 186 ∷ 0 ∷ 0 ∷ 0 ∷ 0 ∷ 191 ∷ 192 ∷ 193
    ∷ 194 ∷ 1 ∷ 196 ∷ 197 ∷ 198 ∷ 199 ∷ 200 ∷ 0 ∷ 0 ∷ 0 ∷ 0 ∷ 205 ∷ 206 ∷ 207
    ∷ 208 ∷ 0 ∷ 210 ∷ 211 ∷ 212 ∷ 213 ∷ 214 ∷ 0 ∷ 0 ∷ 0 ∷ 0 ∷ 219 ∷ 220 ∷ 221
    ∷ 222 ∷ 1 ∷ 224 ∷ 225 ∷ 226 ∷ 227 ∷ 228 ∷ 0 ∷ 0 ∷ 0 ∷ 0 ∷ 233 ∷ 234 ∷ 235
    ∷ 236 ∷ 0 ∷ 238 ∷ 239 ∷ 240 ∷ 241 ∷ 242 ∷ 0 ∷ 0 ∷ 0 ∷ 0 ∷ 247 ∷ 248 ∷ 249
    ∷ []
