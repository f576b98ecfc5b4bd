-- The listing: records of 24 bytes, one for each item of an accepted element, and one for a refused element.
use Rattle.std.specs.Prelude.{List, [], ◌∷◌, ◌++◌, ℕ, ◌+◌, ◌/◌, ◌%◌, get_or}
use Rattle.kernel.specs.Element.{Item, Answer, accepted, rejected}
use Rattle.text.specs.Text.{letters}
use Rattle.element.specs.Mux.{Applied}
use Rattle.capture.specs.Frames.{start, frames_of}
use Rattle.capture.specs.Blocks.{Report, text_of}

-- the digit of n at a place 1, 10, 100, ..
abbrev pub digit_at : ℕ → ℕ → ℕ
digit_at n place = 48 + n / place % 10

-- element number, kind letter, stream, first bit, width, one space between, newline
unfoldable pub line_of : ℕ → ℕ → ℕ → ℕ → ℕ → List ℕ
line_of number letter stream first width =
    digit_at number 100000 ∷ digit_at number 10000 ∷ digit_at number 1000 ∷ digit_at number 100 ∷ digit_at number 10 ∷
    digit_at number 1
    ∷ 32 ∷ letter ∷ 32
    ∷ digit_at stream 10 ∷ digit_at stream 1
    ∷ 32
    ∷ digit_at first 10000 ∷ digit_at first 1000 ∷ digit_at first 100 ∷ digit_at first 10 ∷ digit_at first 1
    ∷ 32
    ∷ digit_at width 10000 ∷ digit_at width 1000 ∷ digit_at width 100 ∷ digit_at width 10 ∷ digit_at width 1
    ∷ 10 ∷ []

-- kinds 1 to 6
abbrev pub kind_letters : List ℕ
kind_letters = letters "?UCLPOA"

-- of any other kind a question mark
abbrev pub letter_of : ℕ → ℕ
letter_of kind = get_or kind_letters kind 63

-- the record of an item,
abbrev pub item_line : ℕ → Item → List ℕ
item_line number it = line_of number (letter_of it.kind) it.stream it.first it.width

-- and of all items of an element
unfoldable pub item_lines : ℕ → List Item → List ℕ
item_lines number [] = []
item_lines number (it ∷ its) = item_line number it ++ item_lines number its

-- X, refusal number, place, fields read
abbrev pub refused_line : ℕ → ℕ → ℕ → ℕ → List ℕ
refused_line number refusal place count = line_of number 88 refusal place count

-- the records of the element with this number
abbrev pub listed : ℕ → Answer Applied → List ℕ
listed number (accepted a its n) = item_lines number its
listed number (rejected r its) = refused_line number r.refusal.number r.refusal.place r.refusal.fields

-- of a frame at most 1,092; nothing is remembered from frame to frame
abbrev pub records : Report (Unit {0})
records = record { text = λ x m. listed m.number m.reading; after = λ x m. x; most = 26208 }

-- the listing of a capture
abbrev pub listing_of : List ℕ → List ℕ
listing_of s = text_of records tt (frames_of s 4368 start)
