-- What is claimed of the listing. proofs/Theorems.antt has the theorem of each.
use Rattle.std.specs.Prelude.{◌≡◌, List, [], ◌∷◌, ◌++◌, ℕ, zero, suc, ◌+◌, ◌*◌, ◌-◌, ◌≤◌, length, get_or}
use Rattle.kernel.specs.Element.{Item, Answer, accepted, rejected}
use Rattle.text.specs.Text.{letters}
use Rattle.element.specs.Mux.{kind_u, kind_c, kind_l, kind_p, kind_o, kind_a, Applied}
use Rattle.capture.specs.Frames.{OfEach, start, frames_of}
use Rattle.capture.specs.Blocks.{blocks}
use Rattle.capture.specs.Worked.{bytes01}
use Rattle.listing_blocks.specs.Listing.{letter_of, item_line, refused_line, records, listing_of}

-- document 01's nine lines for its bytes
abbrev pub lines : List ℕ
lines =
    letters "000000 U 00 00000 00001\n" ++ (letters "000000 C 00 00001 00044\n" ++ (letters "000000 L 00 00045 00008\n"
    ++ (letters "000000 P 00 00053 00016\n" ++
    (letters "000000 A 00 00069 00003\n" ++ (letters "000001 U 00 00000 00001\n"
    ++ (letters "000001 L 00 00001 00008\n" ++
    (letters "000001 P 00 00009 00000\n" ++ letters "000001 A 00 00009 00007\n")))))))

-- they are its listing
abbrev pub WorkedListing : Type 0
WorkedListing = listing_of bytes01 ≡ lines

-- the letter of each kind of item,
abbrev pub LettersOfKinds : Type 0
LettersOfKinds =
    letter_of kind_u ∷ letter_of kind_c ∷ letter_of kind_l ∷ letter_of kind_p ∷ letter_of kind_o ∷ letter_of kind_a ∷ []
    ≡ letters "UCLPOA"

-- and of a refusal
abbrev pub LetterOfRefusal : Type 0
LetterOfRefusal = (number refusal place count : ℕ)
    → get_or (refused_line number refusal place count) 7 0 ∷ [] ≡ letters "X"

-- the number that k digits of a record say, from byte p on
unfoldable pub said : List ℕ → ℕ → ℕ → ℕ
said line p zero = 0
said line p (suc k) = 10 * said line p k + (get_or line (p + k) 0 - 48)

-- all that a record says: element number, kind letter, stream, first bit, width
abbrev pub all_said : List ℕ → List ℕ
all_said line = said line 0 6 ∷ get_or line 7 0 ∷ said line 9 2 ∷ said line 12 5 ∷ said line 18 5 ∷ []

-- the record of each item says what the item is
unfoldable pub EachSaid : ℕ → List Item → Type 0
EachSaid number [] = Unit {0}
EachSaid number (it ∷ its) =
    (all_said (item_line number it) ≡ number ∷ letter_of it.kind ∷ it.stream ∷ it.first ∷ it.width ∷ [])
    × EachSaid number its

-- the records of an element say its items, or its refusal with letter X (88)
abbrev pub Said : ℕ → Answer Applied → Type 0
Said number (accepted a its n) = EachSaid number its
Said number (rejected r its) =
    all_said (refused_line number r.refusal.number r.refusal.place r.refusal.fields)
    ≡ number ∷ 88 ∷ r.refusal.number ∷ r.refusal.place ∷ r.refusal.fields ∷ []

-- six, two and five digits lose nothing of any item or refusal of a listing: its elements are fewer than 1,000,000, and
-- one that is read has at most 8,191 bytes
abbrev pub NothingIsLost : Type 0
NothingIsLost = (s : List ℕ) → OfEach (λ m. Said m.number m.reading) (frames_of s 4368 start)

-- the text of blocks one after the other up to the last, each from where the one before was come to, is the listing: as
-- many as a capture has bytes are enough, if each has room for a full map
abbrev pub ListingIsWhole : Type 0
ListingIsWhole = (s : List ℕ) (size : ℕ) → 26208 ≤ size
    → blocks records size s 4368 (length s) tt start ≡ listing_of s
