-- The refusals in plain words.
use Rattle.std.specs.Prelude.{List, [], ◌∷◌, ℕ, get_or}
use Prim.Native.String.{String}
use Rattle.text.specs.Text.{letters}

-- for a number that no refusal has
abbrev pub unknown : String
unknown = "no such refusal"

-- by number, from 0 on
abbrev pub refusals : List String
refusals =
    unknown
    ∷ "the map has room for fewer than 4368 numbers"
    ∷ "the element has no byte, or more than 8191"
    ∷ "the element ends before this field, fill, payload or other data does"
    ∷ "the held configuration is to apply, and none is held"
    ∷ "audioMuxVersionA is 1"
    ∷ "the streams are not framed together"
    ∷ "more than 16 streams"
    ∷ "audio object type not carried"
    ∷ "frequency index 13 or 14, or a frequency of 0 Hz"
    ∷ "a field of the configuration passes ascLen"
    ∷ "channelConfiguration not carried"
    ∷ "dependsOnCoreCoder or extensionFlag is 1"
    ∷ "frameLengthType not carried"
    ∷ "the length of other data has more than four groups"
    ∷ "whole bytes are left after the alignment"
    ∷ "a value of the record cannot be written"
    ∷ "the lengths, the payload or the other data do not fit the record"
    ∷ "the element would have more than 8191 bytes"
    ∷ "the output is shorter than the element"
    ∷ "no frame at or after the start, or more than 65536 bytes"
    ∷ []

-- the words of a refusal, in bytes
abbrev pub words_of : ℕ → List ℕ
words_of number = letters (get_or refusals number unknown)
