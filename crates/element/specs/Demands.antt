-- The demands, of what `read_with` leaves behind: the reply, what is held, the final map and the final table.
-- proofs/Demands.antt has the theorem of each.
use Rattle.std.specs.Prelude.{◌≡◌, Bool, true, false, is_some, Err, List, ℕ, ◌+◌, ◌*◌, ◌≤◌, ◌<◌, length}
use Rattle.kernel.specs.declared.Refusal.{Refusal}
use Rattle.kernel.specs.Bits.{bit_at}
use Rattle.kernel.specs.Reading.{Stop}
use Rattle.kernel.specs.Element.{Item, rejected, Tiles, OneItem, InClosed, sum_passed}
use Rattle.records.specs.Table.{table_of}
use Rattle.records.specs.Valid.{valid_of}
use Rattle.element.specs.Held.{Held, config_held, usable}
use Rattle.element.specs.Reply.{accepts}
use Rattle.element.specs.declared.Reply.{Reply}
use Rattle.element.specs.Reply.{answer}
use Rattle.element.specs.Left.{shown, Left, left_of}
use Rattle.element.specs.Promises.{ReadPromise, ReadWithPromise}

-- what is promised is what is left, so that all below is said of what a call answers and of what then stands in all
-- that was lent to it
abbrev pub PromisedIsLeft : Type 0
PromisedIsLeft =
    (s : List ℕ) (held : Held) (map : List ℕ) (table : List (List ℕ)) (r : Reply) (map' : List ℕ)
    (table' : List (List ℕ))
    → ReadWithPromise s held map table r map' table'
    → ◌≡◌ {A = Left} (record { reply = r; map = map'; table = table' }) (left_of s held map table)

-- and of `read`, which leaves the same without a table
abbrev pub ReadIsLeft : Type 0
ReadIsLeft = (s : List ℕ) (held : Held) (map : List ℕ) (table : List (List ℕ)) (r : Reply) (map' : List ℕ)
    → ReadPromise s held map r map' → (r ≡ (left_of s held map table).reply) × (map' ≡ (left_of s held map table).map)

module _ (s : List ℕ) (held : Held) (map : List ℕ) (table : List (List ℕ)) where
  abbrev left : Left
  left = left_of s held map table

  -- only an element of 1 to 8,191 bytes is accepted, into a map of 4,368 numbers or more
  abbrev pub AcceptedFits : Type 0
  AcceptedFits =
      (k n : ℕ) (sent : Bool) → left.reply.verdict ≡ accepts k n sent
      → (4368 ≤ length map) × (1 ≤ length s) × (length s ≤ 8191)

  -- accepted with k items: the map shows them one after the other over all bits of the element,
  abbrev pub ShownTile : Type 0
  ShownTile =
      (k n : ℕ) (sent : Bool) → left.reply.verdict ≡ accepts k n sent → Tiles 0 (shown k left.map) (8 * length s)

  -- each bit lies in exactly one of them,
  abbrev pub ShownOnce : Type 0
  ShownOnce =
      (k n : ℕ) (sent : Bool) → left.reply.verdict ≡ accepts k n sent → (i : ℕ) → i < 8 * length s
      → OneItem (shown k left.map) i

  -- and the count is never above the bits outside payload, other data and alignment
  abbrev pub ShownCount : Type 0
  ShownCount =
      (k n : ℕ) (sent : Bool) → left.reply.verdict ≡ accepts k n sent
      → n + sum_passed (shown k left.map) ≤ 8 * length s

  -- an element of the same length that agrees outside the payload and other data that the map shows leaves the same
  -- behind
  abbrev pub SameLeft : Type 0
  SameLeft = (k n : ℕ) (sent : Bool) → left.reply.verdict ≡ accepts k n sent
      → (t : List ℕ) → length t ≡ length s
      → ((i : ℕ) → i < 8 * length s → ¬ InClosed (shown k left.map) i → bit_at t i ≡ bit_at s i)
      → left_of t held map table ≡ left

  -- and so does one that agrees with a refused one in every bit before the stop and in the field there, save in payload
  -- and other data already passed
  abbrev pub SameLeftRefused : Type 0
  SameLeftRefused = (r : Stop) (passed : List Item) → answer s held (length map) ≡ rejected r passed
      → (t : List ℕ) → length t ≡ length s
      → ((i : ℕ) → i < r.refusal.place + r.there → ¬ InClosed passed i → bit_at t i ≡ bit_at s i)
      → left_of t held map table ≡ left

  -- where a configuration was sent, one that 16 does not refuse is held from then on, and the table is its own;
  abbrev pub SentIsHeld : Type 0
  SentIsHeld = (k n : ℕ) → left.reply.verdict ≡ accepts k n true
      → (is_some left.reply.held ≡ true) × (valid_of (config_held left.reply.held) ≡ true)
      × (left.table ≡ table_of (config_held left.reply.held).layers (config_held left.reply.held).programs)

  -- where none was sent, what was held could be used and is held on, and the table is as it stood;
  abbrev pub HeldStays : Type 0
  HeldStays =
      (k n : ℕ) → left.reply.verdict ≡ accepts k n false
      → (usable held ≡ true) × (left.reply.held ≡ held) × (left.table ≡ table)

  -- accepted or refused, what can be used is held on;
  abbrev pub UsableStays : Type 0
  UsableStays = usable held ≡ true → usable left.reply.held ≡ true

  -- so the element after one that sent a configuration, and each behind it, is not refused by 4
  abbrev pub NextIsNot4 : Type 0
  NextIsNot4 = (k n : ℕ) → left.reply.verdict ≡ accepts k n true
      → (t more : List ℕ) (rows : List (List ℕ)) (x : Refusal)
      → (left_of t left.reply.held more rows).reply.verdict ≡ Err x → ¬ (x.number ≡ 4)

  -- the count of a refused element is never above the bits outside what was passed over before the stop
  abbrev pub RefusedCount : Type 0
  RefusedCount =
      (r : Stop) (passed : List Item) → answer s held (length map) ≡ rejected r passed
      → r.refusal.fields + sum_passed passed ≤ 8 * length s

  -- a refusal is one of the table's, at a bit of the element or behind its last, with no more fields than bits; and it
  -- changes nothing
  abbrev pub RefusedLeft : Type 0
  RefusedLeft = (x : Refusal) → left.reply.verdict ≡ Err x
      → (1 ≤ x.number) × (x.number ≤ 15) × (x.place ≤ 8 * length s) × (x.fields ≤ 8 * length s)
      × (left ≡ record { reply = record { verdict = Err x; held = held }; map = map; table = table })
