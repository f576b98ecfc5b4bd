-- What is claimed of an element, of what its reading answers. proofs/Theorems.antt has the theorem of each; the demands
-- follow in Demands.
use Rattle.std.specs.Prelude.{◌≡◌, true, false, cond, List, [], ◌∷◌, ◌++◌, ℕ, zero, suc, ◌+◌, ◌*◌, ◌≤◌, ◌<◌, eqb, length}
use Rattle.std.specs.Option.{option_or}
use Rattle.kernel.specs.Bits.{bit_at, value_at}
use Rattle.kernel.specs.Reading.{Stop, stop, Outcome, gave, refused, run, after}
use Rattle.kernel.specs.Element.{Item, Answer, accepted, rejected, items_of, count_of, place_of, Tiles, OneItem}
use Rattle.kernel.specs.Element.{InClosed, sum_widths, sum_passed}
use Rattle.records.specs.declared.Record.{Record}
use Rattle.records.specs.Table.{streams_in}
use Rattle.records.specs.Valid.{valid_of}
use Rattle.element.specs.Held.{Held, config_held, usable}
use Rattle.element.specs.Mux.{kind_u, kind_c, kind_l, kind_p, kind_o, kind_a, Applied, streams_of}
use Rattle.element.specs.Mux.{mux_slot_length_bytes, slot_of}
use Rattle.element.specs.declared.Reply.{Reply}
use Rattle.element.specs.Reply.{answer, held_after, sent_by, reply_of}
use Rattle.element.specs.Left.{content_of}
use Rattle.element.specs.Promises.{ReadPromise, ReadWithPromise}

-- the content of each item is its kind's
unfoldable pub EachByKind : List Item → Type 0
EachByKind [] = Unit {0}
EachByKind (it ∷ its) = (it.content ≡ content_of it.kind) × EachByKind its

-- the kind and stream of each item
unfoldable pub marks : List Item → List ℕ
marks [] = []
marks (it ∷ its) = it.kind ∷ it.stream ∷ marks its

-- the stream of each item is below k
unfoldable pub EachBelow : ℕ → List Item → Type 0
EachBelow k [] = Unit {0}
EachBelow k (it ∷ its) = (it.stream < k) × EachBelow k its

-- a payload of each of k streams from stream i on
unfoldable pub payload_marks : ℕ → ℕ → List ℕ
payload_marks i zero = []
payload_marks i (suc k) = kind_p ∷ i ∷ payload_marks (i + 1) k

-- n subframes of k streams: one item for all lengths, then the payloads
unfoldable pub subframe_marks : ℕ → ℕ → List ℕ
subframe_marks zero k = []
subframe_marks (suc n) k = (kind_l ∷ 0 ∷ payload_marks 0 k) ++ subframe_marks n k

-- the subframes, other data if otherDataPresent is 1, alignment
abbrev pub body_marks : Record → List ℕ
body_marks r =
    subframe_marks (r.subframes + 1) (length (streams_of r))
    ++ (cond (eqb r.other 1) (kind_o ∷ 0 ∷ []) [] ++ (kind_a ∷ 0 ∷ []))

-- the configuration if sent, and those
abbrev pub config_marks : Applied → List ℕ
config_marks a = cond a.sent (kind_c ∷ 0 ∷ body_marks a.config) (body_marks a.config)

-- the flag, and those
abbrev pub order_of : Applied → List ℕ
order_of a = kind_u ∷ 0 ∷ config_marks a

-- the last item is alignment, and less than a byte
pub record EndsShort (its : List Item) : Type 0 where
  pub before : List Item
  pub last : Item
  pub stands : its ≡ before ++ (last ∷ [])
  pub aligns : last.kind ≡ kind_a
  pub short : last.width < 8

-- the k bytes from bit `at` on lie in the element, and each is 255
pub record Full (s : List ℕ) (at k : ℕ) : Type 0 where
  pub inside : at + 8 * k ≤ 8 * length s
  pub ones : (j : ℕ) → j < k → value_at s (at + 8 * j) 8 ≡ 255

-- what bytes from bit `at` on come to, with n fields read before them, when they are added to v until one is not 255.
-- ends: after k bytes of 255 there is one that is not, b. cut: after k of them the element has no whole byte left,
-- which is 3 at the place of the byte that is missing
pub data Added (s : List ℕ) (v at n : ℕ) (o : Outcome ℕ) : Type 0 where
  ends : (k b : ℕ) → Full s at k → at + 8 * (k + 1) ≤ 8 * length s → value_at s (at + 8 * k) 8 ≡ b → (b ≡ 255 → ⊥)
      → o ≡ gave (v + 255 * k + b) (at + 8 * (k + 1)) (n + (k + 1)) → Added s v at n o
  cut : (k : ℕ) → Full s at k → 8 * length s < at + 8 * (k + 1) → o ≡ refused (stop 3 (at + 8 * k) 0 (n + k))
      → Added s v at n o

-- in an element of at most 8,191 bytes MuxSlotLengthBytes has no bound
abbrev pub SlotIsUnbounded : Type 0
SlotIsUnbounded =
    (s : List ℕ) (at n : ℕ) → length s ≤ 8191 → at ≤ 8 * length s → Added s 0 at n (run s mux_slot_length_bytes at n)

-- and by it the slot of a stream of frameLengthType 0 is read, in bits
abbrev pub SlotByLengthBytes : Type 0
SlotByLengthBytes =
    (s : List ℕ) (at n fixed : ℕ) → run s (slot_of 0 fixed) at n
    ≡ after (run s mux_slot_length_bytes at n) (λ v to m. gave (8 * v) to m)

-- the streams of a record that 16 does not refuse are those of all its programs, numLayer + 1 of each; an array has 16
-- places
abbrev pub StreamsAreAll : Type 0
StreamsAreAll =
    (r : Record) → valid_of r ≡ true → length r.streams ≡ 16
    → length (streams_of r) ≡ streams_in r.layers r.programs (r.programs + 1)

-- what is then held is the configuration that was sent, or else what was held
abbrev pub HeldIsTold : Type 0
HeldIsTold = (held : Held) (x : Answer Applied) → option_or (sent_by x) held ≡ held_after held x

module _ (s : List ℕ) (held : Held) (room : ℕ) where
  -- an element is accepted only with room for 1,092 items, and of 1 to 8,191 bytes
  abbrev pub AcceptedFits : Type 0
  AcceptedFits =
      (a : Applied) (its : List Item) (n : ℕ) → answer s held room ≡ accepted a its n
      → (4368 ≤ room) × (1 ≤ length s) × (length s ≤ 8191)

  -- the items of an accepted element stand one after the other over all its bits
  abbrev pub ItemsTile : Type 0
  ItemsTile =
      (a : Applied) (its : List Item) (n : ℕ) → answer s held room ≡ accepted a its n → Tiles 0 its (8 * length s)

  -- each bit lies in exactly one of them,
  abbrev pub EachBitInOneItem : Type 0
  EachBitInOneItem =
      (a : Applied) (its : List Item) (n : ℕ) → answer s held room ≡ accepted a its n → (i : ℕ) → i < 8 * length s
      → OneItem its i

  -- and their widths add up to its bits
  abbrev pub WidthsAddUp : Type 0
  WidthsAddUp =
      (a : Applied) (its : List Item) (n : ℕ) → answer s held room ≡ accepted a its n → sum_widths its ≡ 8 * length s

  -- the items stand in the order of the map
  abbrev pub MapInOrder : Type 0
  MapInOrder = (a : Applied) (its : List Item) (n : ℕ) → answer s held room ≡ accepted a its n → marks its ≡ order_of a

  -- name no streams but 0 to 15
  abbrev pub StreamsAreFew : Type 0
  StreamsAreFew = (a : Applied) (its : List Item) (n : ℕ) → answer s held room ≡ accepted a its n → EachBelow 16 its

  -- and are no more than 1,092, four numbers each: those that a map must have room for
  abbrev pub ItemsAreFew : Type 0
  ItemsAreFew = (a : Applied) (its : List Item) (n : ℕ) → answer s held room ≡ accepted a its n → length its ≤ 1092

  -- the alignment, which is the last of them, is less than 8 bits wide
  abbrev pub AlignmentIsShort : Type 0
  AlignmentIsShort = (a : Applied) (its : List Item) (n : ℕ) → answer s held room ≡ accepted a its n → EndsShort its

  -- which items are closed, their kinds tell
  abbrev pub ContentByKind : Type 0
  ContentByKind = EachByKind (items_of (answer s held room))

  -- the count is at most the bits outside payload, other data and alignment
  abbrev pub CountIsBounded : Type 0
  CountIsBounded = count_of (answer s held room) + sum_passed (items_of (answer s held room)) ≤ 8 * length s

  -- a refusal stands at a bit of the element, or behind its last
  abbrev pub PlaceIsInside : Type 0
  PlaceIsInside = place_of (answer s held room) ≤ 8 * length s

  -- so place and count are at most 8 × 8,191
  abbrev pub FiguresAreSmall : Type 0
  FiguresAreSmall = (place_of (answer s held room) ≤ 65528) × (count_of (answer s held room) ≤ 65528)

  -- an element of the same length that agrees outside payload and other data gets the same map, count and configuration
  abbrev pub SameAccepted : Type 0
  SameAccepted = (a : Applied) (its : List Item) (n : ℕ) → answer s held room ≡ accepted a its n
      → (t : List ℕ) → length t ≡ length s → ((i : ℕ) → i < 8 * length s → ¬ InClosed its i → bit_at t i ≡ bit_at s i)
      → answer t held room ≡ accepted a its n

  -- and the same refusal, where it agrees in every bit before the stop and in the field there, save in payload and
  -- other data already passed
  abbrev pub SameRefused : Type 0
  SameRefused = (r : Stop) (its : List Item) → answer s held room ≡ rejected r its
      → (t : List ℕ) → length t ≡ length s
      → ((i : ℕ) → i < r.refusal.place + r.there → ¬ InClosed its i → bit_at t i ≡ bit_at s i)
      → answer t held room ≡ rejected r its

  -- where a configuration is sent, what was held plays no part
  abbrev pub SentStandsAlone : Type 0
  SentStandsAlone = (other : Held) → bit_at s 0 ≡ 0 → answer s held room ≡ answer s other room

  -- a refusal is one of the table's
  abbrev pub RefusalIsNumbered : Type 0
  RefusalIsNumbered =
      (r : Stop) (its : List Item) → answer s held room ≡ rejected r its
      → (1 ≤ r.refusal.number) × (r.refusal.number ≤ 15)

  -- 4 is given only where useSameStreamMux is 1 and nothing is held, or a record that 16 refuses,
  abbrev pub FourIsNothingHeld : Type 0
  FourIsNothingHeld =
      (r : Stop) (its : List Item) → answer s held room ≡ rejected r its → r.refusal.number ≡ 4
      → (bit_at s 0 ≡ 1) × (usable held ≡ false)

  -- and there always, behind 1 and 2
  abbrev pub NothingHeldIsFour : Type 0
  NothingHeldIsFour =
      4368 ≤ room → 1 ≤ length s → length s ≤ 8191 → bit_at s 0 ≡ 1 → usable held ≡ false
      → answer s held room ≡ rejected (stop 4 0 1 1) []

  -- a configuration that was sent is one that 16 does not refuse
  abbrev pub SentIsValid : Type 0
  SentIsValid =
      (a : Applied) (its : List Item) (n : ℕ) → answer s held room ≡ accepted a its n → a.sent ≡ true
      → valid_of a.config ≡ true

  -- where none was sent, the held one applied, and 16 does not refuse it either
  abbrev pub HeldApplies : Type 0
  HeldApplies = (a : Applied) (its : List Item) (n : ℕ) → answer s held room ≡ accepted a its n
      → a.sent ≡ false → (a.config ≡ (config_held held)) × (usable held ≡ true)

  -- so behind an accepted element that sent a configuration none is refused by 4, whatever it is and whatever its map,
  abbrev pub NextIsNot4 : Type 0
  NextIsNot4 = (a : Applied) (its : List Item) (n : ℕ) → answer s held room ≡ accepted a its n → a.sent ≡ true
      → (t : List ℕ) (more : ℕ) (r : Stop) (before : List Item)
      → answer t (reply_of s held room).held more ≡ rejected r before → r.refusal.number ≡ 4 → ⊥

  -- and as long as elements are read, accepted or refused, this stays so: what can be used is held on
  abbrev pub UsableStays : Type 0
  UsableStays = usable held ≡ true → usable (reply_of s held room).held ≡ true

  -- a record that was sent has 16 places in each of its arrays, so that it fits the types of the code
  abbrev pub SentHasItsPlaces : Type 0
  SentHasItsPlaces = (a : Applied) (its : List Item) (n : ℕ) → answer s held room ≡ accepted a its n
      → a.sent ≡ true → (length a.config.layers ≡ 16) × (length a.config.streams ≡ 16)

-- each promise allows one answer, and one content of what is lent: that of a reading,
abbrev pub ReadOnce : Type 0
ReadOnce =
    (s : List ℕ) (held : Held) (x y : Reply) (map map₁ map₂ : List ℕ) → ReadPromise s held map x map₁
    → ReadPromise s held map y map₂ → (x ≡ y) × (map₁ ≡ map₂)

-- and that of the reading with a table
abbrev pub ReadWithOnce : Type 0
ReadWithOnce = (s : List ℕ) (held : Held) (x y : Reply) (map map₁ map₂ : List ℕ) (table table₁ table₂ : List (List ℕ))
    → ReadWithPromise s held map table x map₁ table₁ → ReadWithPromise s held map table y map₂ table₂
    → (x ≡ y) × (map₁ ≡ map₂) × (table₁ ≡ table₂)
