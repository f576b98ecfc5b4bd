-- The demands, of what `schilf_read` leaves behind: its number, the words held, the map and the words told.
-- proofs/Demands.antt has the theorem of each.
use Rattle.std.specs.Prelude.{◌≡◌, Bool, List, [], ◌∷◌, ℕ, ◌+◌, ◌*◌, ◌≤◌, ◌<◌, length, get_or, Result, Err}
use Rattle.kernel.specs.declared.Refusal.{Refusal}
use Rattle.kernel.specs.Bits.{bit, bit_at}
use Rattle.kernel.specs.Reading.{Stop}
use Rattle.kernel.specs.Element.{Item, Answer, rejected, Tiles, OneItem, InClosed, sum_passed}
use Rattle.element.specs.declared.Accepted.{Accepted}
use Rattle.element.specs.Mux.{Applied}
use Rattle.element.specs.Reply.{accepts, verdict_of, map_after}
use Rattle.element.specs.Left.{shown}
use Rattle.schilfauge.specs.Lent.{answer_in, held_after, number_of, answer_words}
use Rattle.schilfauge.specs.Promises.{ReadPromise}

-- what `schilf_read` leaves behind
pub record Left : Type 0 where
  pub number : ℕ
  pub held : List ℕ
  pub map : List ℕ
  pub told : List ℕ

-- by the answer to an element
abbrev pub left_by : List ℕ → List ℕ → Answer Applied → Left
left_by held map z =
    record {
      number = number_of (verdict_of z);
      held = held_after held z;
      map = map_after map z;
      told = answer_words
          (verdict_of z);
    }

-- of the element s, with the words held and the map as they were lent
abbrev pub left_of : List ℕ → List ℕ → List ℕ → Left
left_of s held map = left_by held map (answer_in s held (length map))

-- the words told: items, place, fields, sent
abbrev pub items_told : Left → ℕ
items_told l = get_or l.told 0 0

-- the bit at which it was refused
abbrev pub place_told : Left → ℕ
place_told l = get_or l.told 1 0

-- the fields read
abbrev pub fields_told : Left → ℕ
fields_told l = get_or l.told 2 0

-- whether a configuration was sent
abbrev pub sent_told : Left → ℕ
sent_told l = get_or l.told 3 0

-- the items that the map shows
abbrev pub items_left : Left → List Item
items_left l = shown (items_told l) l.map

-- what is promised is what is left, so that all below is said of the number answered and of the words that then stand
abbrev pub PromisedIsLeft : Type 0
PromisedIsLeft = (s held map : List ℕ) (r : ℕ) (held' map' told' : List ℕ) → ReadPromise s held map r held' map' told'
    → ◌≡◌ {A = Left} (record { number = r; held = held'; map = map'; told = told' }) (left_of s held map)

module _ (s held map : List ℕ) where
  abbrev left : Left
  left = left_of s held map

  abbrev verdict : Result Accepted Refusal
  verdict = verdict_of (answer_in s held (length map))

  -- a refusal answers its number, and tells its place and the fields read;
  abbrev pub RefusedTold : Type 0
  RefusedTold =
      (x : Refusal) → verdict ≡ Err x
      → (left.number ≡ x.number) × (left.told ≡ 0 ∷ x.place ∷ x.fields ∷ 0 ∷ [])

  -- an accepted element answers 0, and tells its items, the fields read, and whether a configuration was sent
  abbrev pub AcceptedTold : Type 0
  AcceptedTold =
      (items fields : ℕ) (sent : Bool) → verdict ≡ accepts items fields sent
      → (left.number ≡ 0) × (left.told ≡ items ∷ 0 ∷ fields ∷ bit sent ∷ [])

  -- 0: the element has 1 to 8,191 bytes and the map 4,368 numbers or more,
  abbrev pub AcceptedFits : Type 0
  AcceptedFits = left.number ≡ 0 → (4368 ≤ length map) × (1 ≤ length s) × (length s ≤ 8191)

  -- the map shows the items one after the other over all bits of the element,
  abbrev pub ShownTile : Type 0
  ShownTile = left.number ≡ 0 → Tiles 0 (items_left left) (8 * length s)

  -- each bit lies in exactly one of them,
  abbrev pub ShownOnce : Type 0
  ShownOnce = left.number ≡ 0 → (i : ℕ) → i < 8 * length s → OneItem (items_left left) i

  -- and the count is never above the bits outside payload, other data and alignment
  abbrev pub ShownCount : Type 0
  ShownCount = left.number ≡ 0 → fields_told left + sum_passed (items_left left) ≤ 8 * length s

  -- an element of the same length that agrees outside the payload and other data that the map shows leaves the same
  -- behind
  abbrev pub SameLeft : Type 0
  SameLeft = left.number ≡ 0 → (t : List ℕ) → length t ≡ length s
      → ((i : ℕ) → i < 8 * length s → ¬ InClosed (items_left left) i → bit_at t i ≡ bit_at s i) → left_of t held map ≡ left

  -- and so does one that agrees with a refused one in every bit before the stop and in the field there, save in payload
  -- and other data already passed
  abbrev pub SameLeftRefused : Type 0
  SameLeftRefused = (r : Stop) (passed : List Item) → answer_in s held (length map) ≡ rejected r passed
      → (t : List ℕ) → length t ≡ length s
      → ((i : ℕ) → i < r.refusal.place + r.there → ¬ InClosed passed i → bit_at t i ≡ bit_at s i)
      → left_of t held map ≡ left

  -- 0 and a configuration sent: with the words then held, 4 is not answered to the next element
  abbrev pub NextIsNot4 : Type 0
  NextIsNot4 = left.number ≡ 0 → sent_told left ≡ 1 → (t more : List ℕ) → ¬ ((left_of t left.held more).number ≡ 4)

  -- any other number: a refusal of the table, at a bit of the element or behind its last, with no more fields than
  -- bits; the words held and the map stay
  abbrev pub RefusedLeft : Type 0
  RefusedLeft = ¬ (left.number ≡ 0)
      → (1 ≤ left.number) × (left.number ≤ 15) × (place_told left ≤ 8 * length s) × (fields_told left ≤ 8 * length s)
      × (left.held ≡ held) × (left.map ≡ map)
