-- The theorem of each claim of specs/Demands.antt, from those of what `read_with` leaves behind.
use mathlib.Core.Path.{◌≡◌, refl, ap, sym, ◌∙◌}
use mathlib.Core.Bool.{Bool, true, false}
use mathlib.Core.List.{List, []}
use Prim.Native.Nat.{ℕ, ◌≤◌}
use native.Mathlib.Omega.{arith}
use lib.ListN.{length, get_or}
use Rattle.std.specs.Prelude.{Result, Ok, Err}
use Rattle.kernel.specs.declared.Refusal.{Refusal}
use Rattle.kernel.specs.Bits.{bit}
use Rattle.element.specs.Held.{Held}
use Rattle.element.specs.declared.Accepted.{Accepted}
use Rattle.element.specs.Reply.{answer, accepts, verdict_of}
use Rattle.element.proofs.Theorems.{same_when_refused}
use Rattle.element.proofs.Demands as element
use Rattle.schilfauge.specs.Lent.{held_in, answer_in, held_after, number_of, answer_words}
use Rattle.schilfauge.proofs.Numbers.{held_stays}
use Rattle.schilfauge.proofs.Theorems.{next_finds_held}
use Rattle.schilfauge.specs.Demands.{left_by, PromisedIsLeft, ShownTile, ShownOnce, ShownCount, SameLeft}
use Rattle.schilfauge.specs.Demands.{SameLeftRefused, RefusedLeft, RefusedTold, AcceptedTold, AcceptedFits}
use Rattle.schilfauge.specs.Demands.{NextIsNot4}

record Accepts (v : Result Accepted Refusal) : Type 0 where
  items : ℕ
  fields : ℕ
  sent : Bool
  is : v ≡ accepts items fields sent

-- 0 is no refusal
accepted_by : (v : Result Accepted Refusal) → ((x : Refusal) → v ≡ Err x → 1 ≤ x.number) → number_of v ≡ 0 → Accepts v
accepted_by (Ok a) h e = record { items = a.items; fields = a.fields; sent = a.sent; is = refl }
accepted_by (Err x) h e = absurd (omega (arith, h x refl))

record Refuses (v : Result Accepted Refusal) : Type 0 where
  refusal : Refusal
  is : v ≡ Err refusal

-- and another number is one
refuses : (v : Result Accepted Refusal) → ¬ (number_of v ≡ 0) → Refuses v
refuses (Ok a) h = absurd (h refl)
refuses (Err x) h = record { refusal = x; is = refl }

is_sent : (b : Bool) → bit b ≡ 1 → b ≡ true
is_sent true e = refl
is_sent false e = absurd (omega arith)

pub promised_is_left : PromisedIsLeft
promised_is_left s held map r held' map' told' p =
    λ i. record { number = p.0 i; held = p.1.0 i; map = p.1.1.0 i; told = p.1.1.1 i }

module _ (s held map : List ℕ) where
  abbrev verdict : Result Accepted Refusal
  verdict = verdict_of (answer_in s held (length map))

  accepted : number_of verdict ≡ 0 → Accepts verdict
  accepted = accepted_by verdict (λ x e. (element.refused_left s (held_in held) map [] x e).0)

  pub refused_told : RefusedTold s held map
  refused_told x e = rw e (refl, refl)

  pub accepted_told : AcceptedTold s held map
  accepted_told items fields sent e = rw e (refl, refl)

  pub accepted_fits : AcceptedFits s held map
  accepted_fits e = let a = accepted e in element.left_fits s (held_in held) map [] _ _ _ a.is

  pub shown_tile : ShownTile s held map
  shown_tile e = let a = accepted e in rw a.is (element.shown_tile s (held_in held) map [] _ _ _ a.is)

  pub shown_once : ShownOnce s held map
  shown_once e = let a = accepted e in rw a.is (element.shown_once s (held_in held) map [] _ _ _ a.is)

  pub shown_count : ShownCount s held map
  shown_count e = let a = accepted e in rw a.is (element.shown_count s (held_in held) map [] _ _ _ a.is)

  pub same_left : SameLeft s held map
  same_left e t long same =
      let a = accepted e in
      ap (left_by held map) (element.same_answer s (held_in held) map [] _ _ _ a.is t long (rw a.is at same))

  pub same_left_refused : SameLeftRefused s held map
  same_left_refused r its e t long same =
      ap (left_by held map) (same_when_refused s (held_in held) (length map) r its e t long same ∙ sym e)

  pub next_is_not_4 : NextIsNot4 s held map
  next_is_not_4 e b t more four =
      let a = accepted e in
      let sent : a.sent ≡ true = is_sent a.sent (sym (ap (λ (v : Result Accepted Refusal). get_or (answer_words v) 3 0) a.is)
      ∙ b) in
      let r =
      refuses (verdict_of (answer_in t (held_after held (answer_in s held (length map))) (length more)))
      (λ z. omega arith) in
      let found = ap (λ (h : Held). verdict_of (answer t h (length more))) (sym (next_finds_held s held (length map))) in
      element.next_left_is_not_4 s (held_in held) map [] _ _ (a.is
      ∙ ap (accepts a.items a.fields) sent) t more [] r.refusal
      (found ∙ r.is) (sym (ap number_of r.is) ∙ four)

  pub refused_left : RefusedLeft s held map
  refused_left h =
      let r = refuses verdict h in
      let l = element.refused_left s (held_in held) map [] r.refusal r.is in
      let k = held_stays held map (answer_in s held (length map)) h in
      rw r.is (l.0, l.1, l.2, l.3, k.0, k.1)
