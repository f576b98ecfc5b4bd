-- What readings need of what is held.
use Rattle.std.specs.Prelude.{◌≡◌, Bool, cond, List, ℕ, eqb, Option, Some, None}
use Rattle.kernel.specs.Bits.{bit_at}
use Rattle.kernel.specs.Element.{Answer, accepted, rejected}
use Rattle.records.specs.Valid.{valid_of}
use Rattle.element.specs.Held.{Held}
use Rattle.element.specs.Mux.{Applied}
use Rattle.element.specs.Reply.{verdict_of, sent_by}
use Rattle.walk.specs.declared.Plan.{Plan}
use Rattle.reader.specs.declared.PreparedReply.{PreparedReply}
use Rattle.reader.specs.Parts.{plan_of}

-- what readings need of what is held: the plan of its record, where that is usable
unfoldable pub prepared_of : Held → Option Plan
prepared_of (Some r) = cond (valid_of r) (Some (plan_of r)) None
prepared_of None = None

-- useSameStreamMux is 0
abbrev pub sends_of : List ℕ → Bool
sends_of s = eqb (bit_at s 0) 0

-- of what is held, an element that sends a configuration needs nothing (`SentStandsAlone` of element)
abbrev pub needed_of : List ℕ → Held → Held
needed_of s held = cond (sends_of s) None held

-- it is what was prepared of something held
pub record OfHeld (p : Option Plan) : Type 0 where
  pub held : Held
  pub is : p ≡ prepared_of held

-- an accepted configuration is prepared from then on
abbrev pub prepared_after : Option Plan → Answer Applied → Option Plan
prepared_after p (accepted a its n) = cond a.sent (prepared_of (Some a.config)) p
prepared_after p (rejected r its) = p

-- the verdict, what was sent, and what is then prepared, by the answer to an element
abbrev pub replied_by : Option Plan → Answer Applied → PreparedReply
replied_by p x = record { verdict = verdict_of x; sent = sent_by x; prepared = prepared_after p x }
