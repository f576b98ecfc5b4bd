-- Laws of what is prepared of what is held.
use Rattle.std.proofs.Common.{◌≡◌, refl, ap, sym, ◌∙◌, ℕ, Bool, true, false, cond, List, Option, Some, None}
use Rattle.std.specs.Option.{option_or}
use borrow.Author.Tests.{eqb-true}
use Rattle.kernel.specs.Bits.{bit_at}
use Rattle.kernel.specs.Element.{Answer, accepted, rejected}
use Rattle.records.specs.declared.Record.{Record}
use Rattle.records.specs.Valid.{valid_of}
use Rattle.element.specs.Held.{Held, config_held, usable}
use Rattle.element.specs.Mux.{Applied}
use Rattle.element.specs.Reply.{answer, verdict_of, held_after, reply_with}
use Rattle.element.proofs.Theorems.{sent_stands_alone, held_is_told}
use Rattle.walk.specs.declared.Plan.{Plan}
use Rattle.walk.specs.Plan.{Planned}
use Rattle.reader.specs.declared.PreparedReply.{PreparedReply}
use Rattle.reader.specs.Parts.{plan_of}
use Rattle.reader.specs.Prepared.{prepared_of, sends_of, needed_of, OfHeld, prepared_after, replied_by}
use Rattle.reader.proofs.Plans.{plan_fits}

pub prepared_valid : (r : Record) → valid_of r ≡ true → prepared_of (Some r) ≡ Some (plan_of r)
unfolding prepared_of
prepared_valid r h = rw h

-- what was prepared is the plan of what is held, which is valid
pub record Prepares (held : Held) (plan : Plan) : Type 0 where
  pub valid : valid_of (config_held held) ≡ true
  pub usable_held : usable held ≡ true
  pub is : plan ≡ plan_of (config_held held)

pub prepared_some : (held : Held) (plan : Plan) → Some plan ≡ prepared_of held → Prepares held plan
unfolding prepared_of
prepared_some None plan e = cc
prepared_some (Some r) plan e = go (valid_of r) refl e
  where
    go : (t : Bool) → valid_of r ≡ t → Some plan ≡ cond t (Some (plan_of r)) None → Prepares (Some r) plan
    go true h q = record { valid = h; usable_held = h; is = cc }
    go false h q = cc

pub prepared_none : (held : Held) → None ≡ prepared_of held → usable held ≡ false
unfolding prepared_of
prepared_none None e = refl
prepared_none (Some r) e = go (valid_of r) refl e
  where
    go : (t : Bool) → valid_of r ≡ t → None ≡ cond {A = Option Plan} t (Some (plan_of r)) None → valid_of r ≡ false
    go true h q = cc
    go false h q = h

-- behind an element what is held is prepared, by the answer
pub then_prepared : (held : Held) (x : Answer Applied) → prepared_after (prepared_of held) x ≡ prepared_of (held_after held x)
then_prepared held (rejected r its) = refl
then_prepared held (accepted a its n) = go a.sent
  where
    go : (t : Bool) → cond t (prepared_of (Some a.config)) (prepared_of held) ≡ prepared_of (cond t (Some a.config) held)
    go true = refl
    go false = refl

pub reply_is : (held : Held) (p : Option Plan) (x : Answer Applied) {r : PreparedReply} {h : Held} → r ≡ replied_by p x
    → h ≡ option_or r.sent held → record { verdict = r.verdict; held = h } ≡ reply_with held x
reply_is held p x e f = rw (f, e) (ap (λ (z : Held). record { verdict = verdict_of x; held = z }) (held_is_told held x))

-- what an element needs of what is held gives the same answer
pub needed_same : (held : Held) (s : List ℕ) (room : ℕ) → answer s (needed_of s held) room ≡ answer s held room
needed_same held s room = go (sends_of s) refl
  where
    go : (t : Bool) → sends_of s ≡ t → answer s (cond t None held) room ≡ answer s held room
    go true e = sent_stands_alone s None room held (eqb-true (bit_at s 0) 0 e)
    go false e = refl

pub plan_of_held : {p : Option Plan} {plan : Plan} → OfHeld p → p ≡ Some plan → Planned plan
plan_of_held o e =
    let h = prepared_some o.held _ (sym e ∙ o.is) in rw h.is (plan_fits (config_held o.held) h.valid)
