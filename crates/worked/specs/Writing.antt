-- What is written and refused, worked out by hand, and the claim that it comes out so. proofs/Writing.antt has the
-- theorem.
use Rattle.std.specs.Prelude.{◌≡◌, true, false, Result, Ok, Err, List, [], ◌∷◌, ◌++◌, ℕ, length, get_or, drop, replicate}
use Rattle.kernel.specs.declared.Refusal.{Refusal}
use Rattle.kernel.specs.Answer.{unread}
use Rattle.records.specs.declared.Record.{Record}
use Rattle.records.specs.declared.Stream.{Stream}
use Rattle.records.specs.Blank.{no_stream, no_record}
use Rattle.worked.specs.Worked.{first, first_bytes}
use Rattle.writer.specs.Written.{Sent, to_send}
use Rattle.writer.specs.Write.{written_of, out_after}

-- the output, as it was lent
abbrev lent : ℕ → List ℕ
lent room = replicate room 7

-- into an output of so many bytes: the answer, and the bytes in front of what stays
abbrev ComesOut : Sent → ℕ → Result ℕ Refusal → List ℕ → Type 0
ComesOut w room x bytes = (written_of w room ≡ x) × (out_after w (lent room) x ≡ bytes ++ drop (length bytes) (lent room))

-- the stream of document 01's first element, and one like it with slots of 20 bytes
abbrev sized : Stream
sized = get_or first.streams 0 no_stream

abbrev fixed : Stream
fixed = record { config = sized.config; kind = 1; fullness = 0; fixed = 0 }

-- two programs of one stream each, three bits of other data, a checksum
abbrev two : Record
two = record {
  version = 1;
  subversion = 0;
  tara = 300;
  framing = 1;
  subframes = 0;
  programs = 1;
  layers = replicate 16 0;
  streams = sized ∷ fixed ∷ replicate 14 no_stream;
  other = 1;
  bits = 3;
  checked = 1;
  crc = 0x5A;
}

abbrev twenty : List ℕ
twenty = 1 ∷ 2 ∷ 3 ∷ 4 ∷ 5 ∷ 6 ∷ 7 ∷ 8 ∷ 9 ∷ 10 ∷ 11 ∷ 12 ∷ 13 ∷ 14 ∷ 15 ∷ 16 ∷ 17 ∷ 18 ∷ 19 ∷ 20 ∷ []

-- what is to be written, the room, the answer, and the bytes
abbrev pub WorkedWriting : Type 0
WorkedWriting =
    -- document 01's two elements
    ComesOut (to_send first true (2 ∷ []) (0xAB ∷ 0xCD ∷ []) []) 12 (Ok 9) first_bytes
    × ComesOut (to_send first false (0 ∷ []) [] []) 12 (Ok 2) (0x80 ∷ 0x00 ∷ [])
    -- the second stream takes the configuration of the first; five spare bits of other data are ignored
    × ComesOut (to_send two true (1 ∷ 20 ∷ []) (0xAB ∷ twenty) (0xBF ∷ [])) 40 (Ok 36) (
    0x48 ∷ 0x09 ∷ 0x64 ∷ 0x01 ∷ 0x00 ∷ 0x80 ∷ 0x8C ∷ 0x80 ∷ 0xFF ∷ 0x12 ∷ 0x00 ∷ 0x80
    ∷ 0x75 ∷ 0xA0 ∷ 0x1A ∷ 0xB0 ∷ 0x10 ∷ 0x20 ∷ 0x30 ∷ 0x40 ∷ 0x50 ∷ 0x60 ∷ 0x70 ∷ 0x80
    ∷ 0x90 ∷ 0xA0 ∷ 0xB0 ∷ 0xC0 ∷ 0xD0 ∷ 0xE0 ∷ 0xF1 ∷ 0x01 ∷ 0x11 ∷ 0x21 ∷ 0x31 ∷ 0x4A ∷ []
    )
    -- the blank record; a length too few; an output that is a byte short
    × ComesOut (to_send no_record true (0 ∷ []) [] []) 12 (Err (unread 16)) []
    × ComesOut (to_send first true [] [] []) 12 (Err (unread 17)) []
    × ComesOut (to_send first true (2 ∷ []) (0xAB ∷ 0xCD ∷ []) []) 8 (Err (unread 19)) []
