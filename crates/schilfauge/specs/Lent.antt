-- What the functions answer, and what then stands in the words lent to them. A refusal is answered by its number, and 0
-- says that there is none.
use Rattle.std.specs.Prelude.{Bool, cond, List, [], ◌∷◌, ◌++◌, ℕ, eqb, ltb, get_or, ℤ, pos, false, Option, Some, None, Result, Ok, Err}
use Rattle.kernel.specs.Bits.{bit}
use Rattle.kernel.specs.Element.{Answer, accepted, rejected}
use Rattle.records.specs.declared.Record.{Record}
use Rattle.records.specs.Valid.{valid_of}
use Rattle.records.specs.Table.{table_of}
use Rattle.record_words.specs.Words.{record_size, words_of, record_in}
use Rattle.sync.specs.declared.Hunted.{Hunted}
use Rattle.kernel.specs.declared.Refusal.{Refusal}
use Rattle.element.specs.declared.Accepted.{Accepted}
use Rattle.element.specs.Held.{Held}
use Rattle.element.specs.Mux.{Applied}
use Rattle.element.specs.Reply.{answer}
use Rattle.row.specs.declared.Row.{Row}
use Rattle.row.specs.Row.{row_in}
use Rattle.writer.specs.Written.{Sent, to_send}

-- 0, or the number of the refusal
abbrev pub number_of : {A : Type 0} → Result A Refusal → ℕ
number_of (Ok a) = 0
number_of (Err x) = x.number

-- what is told where nothing was refused, or what stood there
abbrev pub told_after : {A : Type 0} → A → Result A Refusal → A
told_after old (Ok a) = a
told_after old (Err x) = old

-- ---- hunting

-- the place of the frame and the bytes of its element, or the words as they stood
abbrev pub found_after : List ℕ → Result Hunted Refusal → List ℕ
found_after found (Ok h) = h.place ∷ h.size ∷ []
found_after found (Err x) = found

-- ---- reading

-- what words hold: the record that the first of them are, present where the one behind these is 1
abbrev pub held_in : List ℕ → Held
held_in w = cond (eqb (get_or w record_size 0) 1) (Some (record_in w)) None

-- the words of a record that is present
abbrev pub held_words : Record → List ℕ
held_words r = words_of r ++ (1 ∷ [])

-- of an element, with what these words hold before it
abbrev pub answer_in : List ℕ → List ℕ → ℕ → Answer Applied
answer_in s w room = answer s (held_in w) room

-- the words held afterwards: those of an accepted configuration, else as they stood
abbrev pub held_after : List ℕ → Answer Applied → List ℕ
held_after w (accepted a items n) = cond a.sent (held_words a.config) w
held_after w (rejected r items) = w

-- whether a configuration was sent
abbrev pub has_sent : Result Accepted Refusal → Bool
has_sent (Ok a) = a.sent
has_sent (Err x) = false

-- the words of what is held, or as they stood
abbrev pub words_or : List ℕ → Held → List ℕ
words_or w (Some r) = held_words r
words_or w None = w

-- the same, of a verdict and what is held beside it: by this an inner function promises
abbrev pub kept_after : List ℕ → Result Accepted Refusal → Held → List ℕ
kept_after w v held = cond (has_sent v) (words_or w held) w

-- items, place, fields read, and whether a configuration was sent; only a refusal has a place, and only an accepted
-- element items
abbrev pub answer_words : Result Accepted Refusal → List ℕ
answer_words (Ok a) = a.items ∷ 0 ∷ a.fields ∷ bit a.sent ∷ []
answer_words (Err x) = 0 ∷ x.place ∷ x.fields ∷ 0 ∷ []

-- ---- rows

-- 0, or 16
abbrev pub row_number : Record → ℕ
row_number r = cond (valid_of r) 0 16

-- the number of a stream, 255 where there is no such pair
abbrev pub stream_at : List (List ℕ) → ℕ → ℕ → ℕ
stream_at table p l = cond (ltb p 16) (cond (ltb l 8) (get_or (get_or table p []) l 0) 255) 255

-- 9 words: the stream's number and its row; zeros behind 255 where there is no row
abbrev pub row_words : ℕ → Option Row → List ℤ
row_words stream (Some r) =
    pos stream ∷ pos r.program ∷ pos r.layer ∷ pos r.core ∷ pos r.rate ∷ pos r.output ∷ r.sbr ∷ r.ps
    ∷ pos r.channels ∷ []
row_words stream None = pos 255 ∷ pos 0 ∷ pos 0 ∷ pos 0 ∷ pos 0 ∷ pos 0 ∷ pos 0 ∷ pos 0 ∷ pos 0 ∷ []

-- by the record's own table
abbrev pub row_at : Record → List (List ℕ) → ℕ → ℕ → List ℤ
row_at r table p l = row_words (stream_at table p l) (row_in r table p l)

-- the words of the row, or as they stood where 16 refuses the record
abbrev pub row_after : List ℤ → Record → ℕ → ℕ → List ℤ
row_after row r p l = cond (valid_of r) (row_at r (table_of r.layers r.programs) p l) row

-- ---- writing

-- what is to be written, with the record that the words are
abbrev pub sent_in : List ℕ → Bool → List ℕ → List ℕ → List ℕ → Sent
sent_in w send lengths payload other = to_send (record_in w) send lengths payload other
