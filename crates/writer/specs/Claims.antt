-- What is claimed of the writer. proofs/Theorems.antt has the theorem of each.
use Rattle.std.specs.Prelude.{◌≡◌, Bool, true, false, cond, List, [], ◌∷◌, ◌++◌, ◌⊎◌, ℕ, zero, suc, ◌+◌, ◌-◌, ◌*◌, ◌/◌, ◌^◌, ◌≤◌, ◌<◌, eqb, length, get_or, take, drop, Some, Result, Ok, Err}
use Rattle.kernel.specs.Exactly.{Exactly}
use Rattle.kernel.specs.Answer.{unread}
use Rattle.kernel.specs.declared.Refusal.{Refusal}
use Rattle.kernel.specs.Bits.{bit_at, number, unpack}
use Rattle.kernel.specs.Element.{Item, accepted}
use Rattle.records.specs.declared.Record.{Record}
use Rattle.records.specs.Blank.{no_stream}
use Rattle.records.specs.Table.{streams_in, table_of}
use Rattle.records.specs.Valid.{valid_of}
use Rattle.config.specs.Mux.{config_at}
use Rattle.config.specs.Claims.{bits_before}
use Rattle.element.specs.Held.{Held}
use Rattle.element.specs.Mux.{kind_p, kind_o, kind_a, streams_of}
use Rattle.element.specs.Reply.{answer, accepts}
use Rattle.element.specs.Left.{shown, left_of}
use Rattle.writer.specs.Written.{Sent, sum_of, size_of}
use Rattle.writer.specs.Write.{written_of, out_after}
use Rattle.writer.specs.Promises.{WritePromise}

-- the bits of the items of one kind, one after the other, as they stand in an element
unfoldable pub contents_of : ℕ → List ℕ → List Item → List Bool
contents_of kind s [] = []
contents_of kind s (it ∷ its) =
    cond (eqb it.kind kind) (take it.width (drop it.first (unpack s))) [] ++ contents_of kind s its

-- and their widths
unfoldable pub widths_of : ℕ → List Item → List ℕ
widths_of kind [] = []
widths_of kind (it ∷ its) = cond (eqb it.kind kind) (it.width ∷ []) [] ++ widths_of kind its

-- the bits of k lengths in bytes
unfoldable pub widths : ℕ → List ℕ → List ℕ
widths zero ns = []
widths (suc k) ns = 8 * get_or ns 0 0 ∷ widths k (drop 1 ns)

-- items show what was written: the lengths of the slots, the payloads at their places, other data, and zero alignment
pub record Shows (w : Sent) (s : List ℕ) (items : List Item) : Type 0 where
  pub slots : widths_of kind_p items ≡ widths (length w.lengths) w.lengths
  pub payloads : contents_of kind_p s items ≡ unpack w.payload
  pub others : contents_of kind_o s items
      ≡ cond (eqb w.config.other 1) (take w.config.bits (unpack w.other)) []
  pub zeros : number 0 (contents_of kind_a s items) ≡ 0

-- an element is accepted and gives back what was written: the record, the payloads at their places in the map, and
-- other data; the alignment is 0
pub record ReadsBack (w : Sent) (s : List ℕ) (held : Held) (room : ℕ) : Type 0 where
  pub items : List Item
  pub count : ℕ
  pub accepts : answer s held room ≡ accepted (record { sent = w.send; config = w.config }) items count
  pub shows : Shows w s items

-- what a record's types say of it: arrays have 16 places, and a u32 has 32 bits
abbrev pub Typed : Record → Type 0
Typed r = (length r.layers ≡ 16) × (length r.streams ≡ 16) × (r.tara < 2 ^ 32) × (r.bits < 2 ^ 32)

-- what is written reads back, with the same record held, or with anything held if it was sent
abbrev pub WrittenReadsBack : Type 0
WrittenReadsBack = (w : Sent) (out : List ℕ) (n : ℕ) → Typed w.config → written_of w (length out) ≡ Ok n
    → (held : Held) → (w.send ≡ true) ⊎ (held ≡ Some w.config) → (room : ℕ)
    → 4368 ≤ room
    → ReadsBack w (take n (out_after w out (Ok n))) held room

-- `read_with` accepts the element; then the record is held, the map shows what was written, and the table is that of a
-- record that was sent
pub record ComesBack (w : Sent) (s : List ℕ) (held : Held) (map : List ℕ) (table : List (List ℕ)) : Type 0 where
  pub items : ℕ
  pub fields : ℕ
  pub replies : (left_of s held map table).reply
      ≡ record { verdict = accepts items fields w.send; held = Some w.config }
  pub shows : Shows w s (shown items (left_of s held map table).map)
  pub tables : (left_of s held map table).table ≡ cond w.send (table_of w.config.layers w.config.programs) table

-- what `write` leaves in its output comes back through `read_with`, with the same record held, or with anything held if
-- it was sent
abbrev pub WrittenComesBack : Type 0
WrittenComesBack = (w : Sent) (out : List ℕ) (n : ℕ) → Typed w.config → written_of w (length out) ≡ Ok n
    → (held : Held) → (w.send ≡ true) ⊎ (held ≡ Some w.config) → (map : List ℕ)
    → 4368 ≤ length map → (table : List (List ℕ))
    → ComesBack w (take n (out_after w out (written_of w (length out)))) held map table

-- what stood behind the element stays,
abbrev pub BytesBehindStay : Type 0
BytesBehindStay = (w : Sent) (out : List ℕ) (n : ℕ) → written_of w (length out) ≡ Ok n
    → let out' = out_after w out (written_of w (length out)) in (length out' ≡ length out) × (drop n out' ≡ drop n out)

-- and a refusal leaves the whole output as it stood
abbrev pub RefusalKeepsOutput : Type 0
RefusalKeepsOutput =
    (w : Sent) (out : List ℕ) (x : Refusal) → written_of w (length out) ≡ Err x
    → out_after w out (written_of w (length out)) ≡ out

-- where the record is sent, useSameConfig of each stream but the first, at its place, is 1 exactly where its
-- configuration equals the one before
abbrev pub SameWhereEqual : Type 0
SameWhereEqual = (w : Sent) (out : List ℕ) (n : ℕ) → written_of w (length out) ≡ Ok n → w.send ≡ true
    → let r = w.config in
    (p l : ℕ) → p ≤ r.programs → l ≤ get_or r.layers p 0 → let i = streams_in r.layers r.programs p + l in 1 ≤ i
    → Exactly (bit_at (out_after w out (written_of w (length out))) (1 + length (bits_before r p l))
    ≡ 1) (config_at r.streams (i - 1) ≡ config_at r.streams i)

-- slots, payload and other data have the sizes that the record asks for; slot j * k + i is that of stream i in subframe
-- j, where there are k streams
pub record RightSizes (w : Sent) : Type 0 where
  pub number : length w.lengths ≡ (w.config.subframes + 1) * length (streams_of w.config)
  pub slots : (j i : ℕ) → j ≤ w.config.subframes → i < length (streams_of w.config)
      → let s = get_or (streams_of w.config) i no_stream in
      (s.kind ≡ 0) ⊎ (get_or w.lengths (j * length (streams_of w.config) + i) 0 ≡ s.fixed + 20)
  pub payloads : length w.payload ≡ sum_of (length w.lengths) w.lengths
  pub others : length w.other ≡ cond (eqb w.config.other 1) ((w.config.bits + 7) / 8) 0

-- a record that 16 does not refuse is written, with payload and other data of the right sizes, where the element is not
-- too long and there is room
abbrev pub RightIsWritten : Type 0
RightIsWritten =
    (w : Sent) (room : ℕ) → valid_of w.config ≡ true → RightSizes w → size_of w ≤ 8191 → size_of w ≤ room
    → written_of w room ≡ Ok (size_of w)

-- and only such a record is
abbrev pub DoneIsRight : Type 0
DoneIsRight = (w : Sent) (room n : ℕ) → written_of w room ≡ Ok n
    → (valid_of w.config ≡ true) × RightSizes w × (n ≡ size_of w) × (1 ≤ n) × (n ≤ 8191) × (n ≤ room)

-- each refusal is given exactly when 01 says, 16 before 17 before 18 before 19
module _ (w : Sent) (room : ℕ) where
  -- refusal m is given
  abbrev pub Gives : ℕ → Type 0
  Gives m = written_of w room ≡ Err (unread m)

  -- each of the four
  pub record RefusedExactly : Type 0 where
    pub for_16 : Exactly (Gives 16) (valid_of w.config ≡ false)
    pub for_17 : Exactly (Gives 17) ((valid_of w.config ≡ true) × (¬ RightSizes w))
    pub for_18 : Exactly (Gives 18) ((valid_of w.config ≡ true) × RightSizes w × (8191 < size_of w))
    pub for_19 : Exactly (Gives 19) ((valid_of w.config ≡ true) × RightSizes w × (size_of w ≤ 8191)
        × (room < size_of w))

-- so of all that is to be written, and every room
abbrev pub RefusalsAreExact : Type 0
RefusalsAreExact = (w : Sent) (room : ℕ) → RefusedExactly w room

-- the promise of `write` allows one answer and one output
abbrev pub WrittenOnce : Type 0
WrittenOnce = (w : Sent) (out out₁ out₂ : List ℕ) (x y : Result ℕ Refusal)
    → WritePromise w out x out₁ → WritePromise w out y out₂ → (x ≡ y) × (out₁ ≡ out₂)
