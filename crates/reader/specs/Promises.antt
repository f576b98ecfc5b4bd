-- The promises over what was prepared of what is held.
use Rattle.std.specs.Prelude.{◌≡◌, List, ℕ, length, Option, Result}
use Rattle.std.specs.Option.{option_or}
use Rattle.kernel.specs.declared.Refusal.{Refusal}
use Rattle.kernel.specs.Element.{Answer}
use Rattle.element.specs.Held.{Held}
use Rattle.element.specs.Mux.{Applied}
use Rattle.element.specs.declared.Accepted.{Accepted}
use Rattle.element.specs.Reply.{answer, verdict_of, sent_by, map_after, table_after}
use Rattle.walk.specs.declared.Plan.{Plan}
use Rattle.reader.specs.declared.PreparedReply.{PreparedReply}
use Rattle.reader.specs.Prepared.{prepared_of, prepared_after, replied_by}

-- an element of an answer: the verdict, and what is then in the map, the table, the places of what was sent and of what
-- is prepared
abbrev pub Takes : Answer Applied → List ℕ → List (List ℕ) → Held → Option Plan → Result Accepted Refusal → List ℕ
    → List (List ℕ) → Held → Option Plan → Type 0
Takes x map table sent p r map' table' sent' p' =
    (r ≡ verdict_of x) × (map' ≡ map_after map x) × (table' ≡ table_after table x)
    × (sent' ≡ option_or (sent_by x) sent) × (p' ≡ prepared_after p x)

-- those of the answer by what is held, whatever that is that this was prepared of
abbrev pub TakesBy : (Held → Answer Applied) → List ℕ → List (List ℕ) → Held → Option Plan → Result Accepted Refusal
    → List ℕ → List (List ℕ) → Held → Option Plan → Type 0
TakesBy x map table sent p r map' table' sent' p' =
    (held : Held) → p ≡ prepared_of held → Takes (x held) map table sent p r map' table' sent' p'

-- `read_prepared`, with the map and the table before and after it
abbrev pub PreparedPromise : List ℕ → Option Plan → List ℕ → List (List ℕ) → PreparedReply → List ℕ → List (List ℕ)
    → Type 0
PreparedPromise s p map table r map' table' = (held : Held) → p ≡ prepared_of held
    → let x = answer s held (length map) in
    (r ≡ replied_by p x) × (map' ≡ map_after map x) × (table' ≡ table_after table x)
