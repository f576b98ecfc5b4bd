-- What is claimed of the words lent. proofs/Theorems.antt has the theorem of each.
use Rattle.std.specs.Prelude.{◌≡◌, Bool, true, cond, ◌⊎◌, List, [], ◌∷◌, ◌++◌, ℕ, ◌+◌, ◌^◌, ◌≤◌, ◌<◌, length, get_or, take, drop, replicate, ℤ, pos, Some, Err}
use Rattle.kernel.specs.declared.Refusal.{Refusal}
use Rattle.kernel.specs.Bits.{bit}
use Rattle.kernel.specs.Reading.{Stop}
use Rattle.kernel.specs.Element.{Item, rejected}
use Rattle.records.specs.declared.Record.{Record}
use Rattle.records.specs.Blank.{no_stream}
use Rattle.records.specs.Table.{streams_in}
use Rattle.records.specs.Valid.{valid_of}
use Rattle.record_words.specs.Words.{record_size}
use Rattle.row.specs.Row.{row_of}
use Rattle.row.specs.Claims.{IsThere}
use Rattle.sync.specs.Sync.{hunt_of, framed_of}
use Rattle.sync.specs.Claims.{Frame}
use Rattle.element.specs.Reply.{verdict_of, reply_of}
use Rattle.writer.specs.Written.{Sent}
use Rattle.writer.specs.Write.{written_of}
use Rattle.element.specs.Left.{shown}
use Rattle.writer.specs.Claims.{Shows}
use Rattle.schilfauge.specs.Lent.{number_of, held_in, held_words, answer_in, held_after, sent_in}
use Rattle.schilfauge.specs.Promises.{HuntPromise, ReadPromise, RowPromise, WritePromise, FramePromise}

-- ---- words laid are found again

-- a record laid as present is held; an array has 16 places
abbrev pub LaidIsHeld : Type 0
LaidIsHeld =
    (r : Record) → length r.layers ≡ 16 → length r.streams ≡ 16
    → held_in (held_words r) ≡ Some r

-- so what a reading leaves held, the next one finds
abbrev pub NextFindsHeld : Type 0
NextFindsHeld = (s w : List ℕ) (room : ℕ) → held_in (held_after w (answer_in s w room)) ≡ (reply_of s (held_in w) room).held

-- ---- where the number answered is not 0, all that is lent is as it stood (of `schilf_read`: Demands)

-- of `schilf_hunt`
abbrev pub HuntKeeps : Type 0
HuntKeeps =
    (s : List ℕ) (start : ℕ) (found : List ℕ) (x : ℕ) (found' : List ℕ) → HuntPromise s start found x found'
    → ¬ (x ≡ 0) → found' ≡ found

-- of `schilf_row`
abbrev pub RowKeeps : Type 0
RowKeeps =
    (r : Record) (p l : ℕ) (row : List ℤ) (x : ℕ) (row' : List ℤ) → RowPromise r p l row x row' → ¬ (x ≡ 0) → row' ≡ row

-- of `schilf_write`
abbrev pub WriteKeeps : Type 0
WriteKeeps = (w : Sent) (out : List ℕ) (size x : ℕ) (out' : List ℕ) (size' : ℕ)
    → WritePromise w out size x out' size' → ¬ (x ≡ 0) → (out' ≡ out) × (size' ≡ size)

-- of `schilf_frame`
abbrev pub FrameKeeps : Type 0
FrameKeeps = (s out : List ℕ) (size x : ℕ) (out' : List ℕ) (size' : ℕ)
    → FramePromise s out size x out' size' → ¬ (x ≡ 0) → (out' ≡ out) × (size' ≡ size)

-- ---- what schilf_row tells of a record

-- 16 refuses it, and then alone the answer is not 0
abbrev pub RowRefused : Type 0
RowRefused =
    (r : Record) (p l : ℕ) (row : List ℤ) (x : ℕ) (row' : List ℤ) → RowPromise r p l row x row'
    → x ≡ cond (valid_of r) 0 16

-- of a pair that is there: the number of its stream, program, layer, core type, core and output frequency, SBR, PS and
-- channels
abbrev pub RowTold : Type 0
RowTold =
    (r : Record) (p l : ℕ) (row : List ℤ) (x : ℕ) (row' : List ℤ) → RowPromise r p l row x row' → valid_of r ≡ true
    → IsThere r p l
    → let i = streams_in r.layers r.programs p + l in let z = row_of p l (get_or r.streams i no_stream) in
    row' ≡ pos i ∷ pos p ∷ pos l ∷ pos z.core ∷ pos z.rate ∷ pos z.output ∷ z.sbr ∷ z.ps
    ∷ pos z.channels ∷ []

-- and of any other 255 and zeros
abbrev pub RowAbsent : Type 0
RowAbsent =
    (r : Record) (p l : ℕ) (row : List ℤ) (x : ℕ) (row' : List ℤ) → RowPromise r p l row x row' → valid_of r ≡ true
    → ¬ IsThere r p l
    → row' ≡ pos 255 ∷ replicate 8 (pos 0)

-- ---- what schilf_write has written comes back through schilf_frame, schilf_hunt and schilf_read

-- the element that the words of a hunt show
abbrev pub element_in : List ℕ → List ℕ → List ℕ
element_in capture found = take (get_or found 1 0) (drop (get_or found 0 0 + 3) capture)

-- behind any bytes, at the end of a capture or before another frame, the frame is found: schilf_hunt from its start
-- answers 0, with its place and the element's bytes
abbrev pub FoundBack : List ℕ → List ℕ → Type 0
FoundBack el frame =
    (before more : List ℕ) → (more ≡ []) ⊎ Frame more → let capture = before ++ (frame ++ more) in
    length capture ≤ 65536
    → (found : List ℕ) (x : ℕ) (found' : List ℕ) → HuntPromise capture (length before) found x found'
    → (x ≡ 0) × (found' ≡ length before ∷ length el ∷ []) × (element_in capture found' ≡ el)

-- schilf_read answers 0 to it; the words held are then the record's and 1, and the map shows what was written
pub record ReadBack (w : Sent) (words el : List ℕ) (x : ℕ) (held map told : List ℕ) : Type 0 where
  pub items : ℕ
  pub fields : ℕ
  pub number : x ≡ 0
  pub tells : told ≡ items ∷ 0 ∷ fields ∷ bit w.send ∷ []
  pub holds : held ≡ words ++ (1 ∷ [])
  pub shows : Shows w el (shown items map)

-- an element is framed with 0 where there is room, and its frame is found; and it reads back with the same words held,
-- or with any held if the record was sent
pub record Trip (w : Sent) (words el : List ℕ) : Type 0 where
  pub framed : (out : List ℕ) (size x : ℕ) (out' : List ℕ) (size' : ℕ) → FramePromise el out size x out' size'
      → 3 + length el ≤ length out → (x ≡ 0) × FoundBack el (take size' out')
  pub read : (held map : List ℕ) (x : ℕ) (held' map' told' : List ℕ) → ReadPromise el held map x held' map' told'
      → (w.send ≡ true) ⊎ (held ≡ words ++ (1 ∷ [])) → 4368 ≤ length map → ReadBack w words el x held' map' told'

-- for any words of 32 bits, as many as a record has
abbrev pub WrittenComesBack : Type 0
WrittenComesBack =
    (words : List ℕ) (send : Bool) (lengths payload other out : List ℕ) (size x : ℕ) (out' : List ℕ) (size' : ℕ)
    → length words ≡ record_size → ((i : ℕ) → get_or words i 0 < 2 ^ 32)
    → let w = sent_in words send lengths payload other in
    WritePromise w out size x out' size' → x ≡ 0 → Trip w words (take size' out')

-- ---- a refusal can be told from what is accepted

-- a refusal of the hunt is 20, so 0 means that a frame was found
abbrev pub RefusedIs20 : Type 0
RefusedIs20 =
    (s : List ℕ) (start : ℕ) (x : Refusal) → hunt_of s start ≡ Err x → number_of (hunt_of s start) ≡ 20

-- a refusal of the reader is 1 to 15, so 0 means that the element was accepted
abbrev pub RefusedIs1To15 : Type 0
RefusedIs1To15 = (s w : List ℕ) (room : ℕ) (r : Stop) (items : List Item) → answer_in s w room ≡ rejected r items
    → (1 ≤ number_of (verdict_of (answer_in s w room))) × (number_of (verdict_of (answer_in s w room)) ≤ 15)

-- a refusal of the writer is 16 to 19, so 0 means that the element was written
abbrev pub RefusedIs16To19 : Type 0
RefusedIs16To19 = (w : Sent) (room : ℕ) (x : Refusal) → written_of w room ≡ Err x
    → (16 ≤ number_of (written_of w room)) × (number_of (written_of w room) ≤ 19)

-- and one of the writer of frames 2 or 19
abbrev pub RefusedIs2Or19 : Type 0
RefusedIs2Or19 = (s : List ℕ) (room : ℕ) (x : Refusal) → framed_of s room ≡ Err x
    → (number_of (framed_of s room) ≡ 2) ⊎ (number_of (framed_of s room) ≡ 19)

-- ---- each promise allows one number, and one content of all that is lent

-- of `schilf_hunt`
abbrev pub HuntOnce : Type 0
HuntOnce = (s : List ℕ) (start : ℕ) (found found₁ found₂ : List ℕ) (x y : ℕ)
    → HuntPromise s start found x found₁ → HuntPromise s start found y found₂ → (x ≡ y) × (found₁ ≡ found₂)

-- of `schilf_read`
abbrev pub ReadOnce : Type 0
ReadOnce = (s w map w₁ w₂ map₁ map₂ told₁ told₂ : List ℕ) (x y : ℕ)
    → ReadPromise s w map x w₁ map₁ told₁ → ReadPromise s w map y w₂ map₂ told₂
    → (x ≡ y) × (w₁ ≡ w₂) × (map₁ ≡ map₂) × (told₁ ≡ told₂)

-- of `schilf_row`
abbrev pub RowOnce : Type 0
RowOnce =
    (r : Record) (p l : ℕ) (row row₁ row₂ : List ℤ) (x y : ℕ) → RowPromise r p l row x row₁
    → RowPromise r p l row y row₂ → (x ≡ y) × (row₁ ≡ row₂)

-- of `schilf_write`
abbrev pub WriteOnce : Type 0
WriteOnce = (w : Sent) (out out₁ out₂ : List ℕ) (size size₁ size₂ x y : ℕ)
    → WritePromise w out size x out₁ size₁ → WritePromise w out size y out₂ size₂
    → (x ≡ y) × (out₁ ≡ out₂) × (size₁ ≡ size₂)

-- of `schilf_frame`
abbrev pub FrameOnce : Type 0
FrameOnce = (s out out₁ out₂ : List ℕ) (size size₁ size₂ x y : ℕ)
    → FramePromise s out size x out₁ size₁ → FramePromise s out size y out₂ size₂
    → (x ≡ y) × (out₁ ≡ out₂) × (size₁ ≡ size₂)
