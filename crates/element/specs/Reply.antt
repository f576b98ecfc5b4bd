-- What a reading of an element replies: refusals 1 and 2 first, then those of the fields; what is then held; and every
-- number of the map lent.
use Rattle.std.specs.Prelude.{Bool, Some, None, Result, Ok, Err, cond, ◌||◌, List, [], ◌∷◌, ◌++◌, ℕ, ◌*◌, eqb, ltb, length, drop}
use Rattle.kernel.specs.declared.Refusal.{Refusal}
use Rattle.kernel.specs.Reading.{stop}
use Rattle.kernel.specs.Element.{Item, Answer, accepted, rejected, read}
use Rattle.records.specs.Table.{table_of}
use Rattle.element.specs.Held.{Held}
use Rattle.element.specs.declared.Accepted.{Accepted}
use Rattle.element.specs.declared.Reply.{Reply}
use Rattle.element.specs.Mux.{Applied, audio_mux_element}

-- of an element s, with room for so many numbers in the map
unfoldable pub answer : List ℕ → Held → ℕ → Answer Applied
answer s held room =
    cond (ltb room 4368) (rejected (stop 1 0 0 0) [])
    (cond (eqb (length s) 0 || ltb 8191 (length s)) (rejected (stop 2 0 0 0) [])
    (read s (audio_mux_element held)))

-- the four numbers of each item
unfoldable pub numbers : List Item → List ℕ
numbers [] = []
numbers (it ∷ its) = it.kind ∷ it.stream ∷ it.first ∷ it.width ∷ numbers its

-- accepted with k items and n fields
abbrev pub accepts : ℕ → ℕ → Bool → Result Accepted Refusal
accepts k n sent = Ok (record { items = k; fields = n; sent = sent })

-- what an answer is in the words of code: the items by their number alone
abbrev pub verdict_of : Answer Applied → Result Accepted Refusal
verdict_of (accepted a its n) = accepts (length its) n a.sent
verdict_of (rejected r its) = Err r.refusal

-- the configuration that an accepted element sent
abbrev pub sent_by : Answer Applied → Held
sent_by (accepted a its n) = cond a.sent (Some a.config) None
sent_by (rejected r its) = None

-- an accepted configuration is held from then on; a refusal changes nothing
abbrev pub held_after : Held → Answer Applied → Held
held_after held (accepted a its n) = cond a.sent (Some a.config) held
held_after held (rejected r its) = held

-- the verdict on an element and what is then held, by its answer
abbrev pub reply_with : Held → Answer Applied → Reply
reply_with held x = record { verdict = verdict_of x; held = held_after held x }

-- and by its bytes
abbrev pub reply_of : List ℕ → Held → ℕ → Reply
reply_of s held room = reply_with held (answer s held room)

-- the map lent, afterwards: the items, and what stood behind them
abbrev pub map_after : List ℕ → Answer Applied → List ℕ
map_after map (accepted a its n) = numbers its ++ drop (4 * length its) map
map_after map (rejected r its) = map

-- the table lent, afterwards: that of an accepted configuration
abbrev pub table_after : List (List ℕ) → Answer Applied → List (List ℕ)
table_after table (accepted a its n) = cond a.sent (table_of a.config.layers a.config.programs) table
table_after table (rejected r its) = table
