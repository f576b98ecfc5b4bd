-- From the walk behind the configuration to the answer of the whole element.
use Rattle.std.proofs.Common.{◌≡◌, refl, ap, sym, ◌∙◌, ℕ, ◌*◌, ◌-◌, ◌≤◌, ◌<◌, Bool, true, false, cond, ◌||◌, eqb, List, ◌++◌, length, drop, Option, Some, None, Result, Ok, Err, arith}
use mathlib.Core.List.{append-nil}
use Rattle.std.specs.Option.{option_or}
use borrow.Author.Tests.{lt-ltb, le-ltb, eq-eqb, ne_eqb}
use Rattle.kernel.specs.declared.Cursor.{Cursor}
use Rattle.kernel.specs.declared.Read.{Read}
use Rattle.kernel.specs.declared.Refusal.{Refusal}
use Rattle.kernel.specs.declared.Window.TheVariants.{Open}
use Rattle.kernel.specs.Reading.{Reading, Outcome, gave, refused, stop, refused_at, run, field, give}
use Rattle.kernel.specs.Answer.{answer as answered, told, unread}
use Rattle.kernel.specs.Element.{Item, Passage, came, fell, done, fields, item, with_item, next, walk, read, Answer}
use Rattle.kernel.specs.Element.{accepted, rejected, ended}
use Rattle.kernel.proofs.Kept.{run_kept}
use Rattle.kernel.proofs.Steps.{told_bind, told_need, told_give, told_field}
use Rattle.kernel.proofs.Values.{value_lt}
use Rattle.kernel.proofs.Walk.{under, onward, walk_follow, walk_gave}
use Rattle.asc.proofs.Given.{Numbered}
use Rattle.records.specs.declared.Record.{Record}
use Rattle.records.specs.Table.{table_of}
use Rattle.records.specs.Valid.{valid_of}
use Rattle.config.specs.Mux.{stream_mux_config}
use Rattle.config.proofs.Given.{ReadOk, mux}
use Rattle.element.specs.declared.Accepted.{Accepted}
use Rattle.element.specs.Held.{Held, config_held, usable}
use Rattle.element.specs.Mux.{kind_u, kind_c, Applied, body, applied, use_same_stream_mux, after_flag}
use Rattle.element.specs.Mux.{audio_mux_element}
use Rattle.element.specs.Reply.{answer, accepts, numbers, verdict_of, sent_by}
use Rattle.walk.specs.Parts.{fronted, verdict_from, map_from}
use Rattle.walk.specs.declared.Plan.{Plan}
use Rattle.walk.specs.Promises.{FinishPromise}
use Rattle.reader.specs.declared.PreparedReply.{PreparedReply}
use Rattle.reader.specs.Prepared.{prepared_of, prepared_after, replied_by}
use Rattle.reader.specs.Parts.{plan_of, behind_of, sent_of}
use Rattle.reader.specs.Promises.{Takes}
use Rattle.reader.proofs.Plans.{plan_is}
use Rattle.reader.proofs.Preparing.{prepared_some}

-- ---- from what is told to the run

gave_told : {A : Type 0} (o : Outcome A) (r : Read A) → Ok r ≡ answered o → o ≡ gave r.value r.next.at r.next.fields
gave_told (gave a at n) r e =
    let q : r ≡ record { value = a; next = record { at = at; fields = n } } = cc in rw q
gave_told (refused x) r e = cc

pub ok_gave : {A : Type 0} (s : List ℕ) (m : Reading A) (c : Cursor) (r : Read A) → Ok r ≡ told s m c
    → run s m c.at c.fields ≡ gave r.value r.next.at r.next.fields
unfolding told
ok_gave s m c r e = gave_told (run s m c.at c.fields) r e

-- ---- the walk behind the configuration

-- a passage with the configuration that applied for its answer
abbrev with : Applied → Passage (Unit {0}) → Passage Applied
with a (came u its at n) = came a its at n
with a (fell r its) = fell r its

onward_with : (s : List ℕ) (a : Applied) (x : Passage (Unit {0})) → onward x (λ _ at n. walk s (done a) at n) ≡ with a x
unfolding onward under walk
onward_with s a (came u its at n) = ap (λ (z : List Item). came a z at n) (append-nil its)
onward_with s a (fell r its) = refl

walk_applied : (s : List ℕ) (a : Applied) (at n : ℕ) → walk s (applied a) at n ≡ with a (walk s (body a.config) at n)
unfolding applied
walk_applied s a at n =
    walk_follow s (λ _. done a) (body a.config) at n ∙ onward_with s a (walk s (body a.config) at n)

fronted_with : (sent : Bool) (at : ℕ) (a : Applied) (x : Passage (Unit {0}))
    → fronted sent at (with a x) ≡ with a (fronted sent at x)
unfolding with_item
fronted_with true at a (came u its p n) = refl
fronted_with true at a (fell r its) = refl
fronted_with false at a (came u its p n) = refl
fronted_with false at a (fell r its) = refl

-- the table, what was sent and what is prepared, by the verdict
abbrev pub tabling : Bool → Record → Result Accepted Refusal → List (List ℕ) → List (List ℕ)
tabling sent r (Ok a) table = cond sent (table_of r.layers r.programs) table
tabling sent r (Err x) table = table

abbrev pub sending : Bool → Record → Result Accepted Refusal → Held → Held
sending sent r (Ok a) h = option_or (cond sent (Some r) None) h
sending sent r (Err x) h = h

abbrev pub preparing : Bool → Record → Result Accepted Refusal → Option Plan → Option Plan
preparing sent r (Ok a) p = cond sent (prepared_of (Some r)) p
preparing sent r (Err x) p = p

unsent : (r : Record) (v : Result Accepted Refusal) (table : List (List ℕ)) (h : Held) (p : Option Plan)
    → (tabling false r v table ≡ table) × (sending false r v h ≡ h) × (preparing false r v p ≡ p)
unsent r (Ok a) table h p = (refl, refl, refl)
unsent r (Err x) table h p = (refl, refl, refl)

or_none : (h : Held) → option_or h None ≡ h
or_none (Some r) = refl
or_none None = refl

module _ (sent : Bool) (r : Record) (bits : ℕ) (map : List ℕ) (table : List (List ℕ)) (h : Held) (p : Option Plan) where
  abbrev a : Applied
  a = record { sent = sent; config = r }

  ends : (x : Passage (Unit {0})) → let v = verdict_from sent bits x in
      Takes (ended bits (with a x)) map table h p v (map_from map bits x) (tabling sent r v table) (sending sent r v h)
      (preparing sent r v p)
  ends (fell z its) = (refl, refl, refl, refl, refl)
  ends (came u its at n) = go (eqb at bits)
    where
      go : (t : Bool) → let v = cond t (accepts (length its) n sent) (Err (refused_at 15 at n)) in
          Takes (cond t (accepted a its n) (rejected (stop 15 at 0 n) its)) map table h p v
          (cond t (numbers its ++ drop (4 * length its) map) map) (tabling sent r v table) (sending sent r v h)
          (preparing sent r v p)
      go true = (refl, refl, refl, refl, refl)
      go false = (refl, refl, refl, refl, refl)

module _ (s : List ℕ) (r : Record) (c : Cursor) (sent : Bool) where
  behind_with : behind_of s r sent c
      ≡ ended (8 * length s) (with (record { sent = sent; config = r }) (fronted sent c.at (walk s (body r) c.at c.fields)))
  unfolding behind_of
  behind_with =
      let a : Applied = record { sent = sent; config = r } in
      ap (λ (z : Passage Applied). ended (8 * length s) (fronted sent c.at z)) (walk_applied s a c.at c.fields)
      ∙ ap (ended (8 * length s)) (fronted_with sent c.at a (walk s (body r) c.at c.fields))

  -- from what `finish` promises
  pub behind_takes : valid_of r ≡ true → {plan : Plan} → plan ≡ plan_of r → (map : List ℕ) (table : List (List ℕ))
      (h : Held) (p : Option Plan) {v : Result Accepted Refusal} {map' : List ℕ}
      → FinishPromise sent s plan c map v map'
      → Takes (behind_of s r sent c) map table h p v map' (tabling sent r v table) (sending sent r v h)
      (preparing sent r v p)
  behind_takes valid e map table h p f =
      let q = rw (e, plan_is r valid) at f in
      rw (behind_with, q.0, q.1)
      (ends sent r (8 * length s) map table h p (fronted sent c.at (walk s (body r) c.at c.fields)))

-- ---- where a configuration stands

module _ (s : List ℕ) (c : Cursor) where
  pub sent_done : (q : Read Record) → c.at ≡ 1 → Ok q ≡ told s stream_mux_config c
      → sent_of s c ≡ behind_of s q.value true q.next
  unfolding sent_of behind_of
  sent_done q h e =
      let r = q.value in
      let at' = q.next.at in
      ap (λ (z : Passage Applied). ended (8 * length s) (with_item (item fields kind_u 0 0 1) z))
      (walk_gave s c.at c.fields kind_c stream_mux_config (λ r. applied (record { sent = true; config = r })) r at' q.next.fields
      (ok_gave s stream_mux_config c q e)
      ∙ ap (λ (p : ℕ). with_item (item fields kind_c 0 p (at' - p))
      (walk s (applied (record { sent = true; config = r })) at' q.next.fields)) h)

  pub sent_valid : (q : Read Record) → Ok q ≡ told s stream_mux_config c → valid_of q.value ≡ true
  sent_valid q e =
      (rw (ok_gave s stream_mux_config c q e) at (run_kept Numbered ReadOk refl refl s c.at c.fields mux)).valid

  pub sent_refused : {x : Refusal} (map : List ℕ) (table : List (List ℕ)) (h : Held) (p : Option Plan)
      → Err x ≡ told s stream_mux_config c → Takes (sent_of s c) map table h p (Err x) map table h p
  unfolding sent_of walk next with_item told
  sent_refused {x} map table h p e = go (run s stream_mux_config c.at c.fields) e
    where
      go : (o : Outcome Record) → Err x ≡ answered o
          → Takes (ended (8 * length s) (with_item (item fields kind_u 0 0 1)
          (next kind_c c.at o (λ r at' n'. walk s (applied (record { sent = true; config = r })) at' n'))))
          map table h p (Err x) map table h p
      go (gave r at' n') q = cc
      go (refused r) q = let z : x ≡ r.refusal = cc in (ap Err z, refl, refl, refl, refl)

-- ---- the flag

abbrev origin : Cursor
origin = record { at = 0; fields = 0 }

abbrev flag : Held → Reading ℕ
flag held = use_same_stream_mux (usable held)

-- a bit that was fetched
pub record Bit (f : Read ℕ) : Type 0 where
  pub at : f.next.at ≡ 1
  pub narrow : f.value < 2

pub one_bit : (s : List ℕ) (f : Read ℕ) → Ok f ≡ told s (field Open 1) origin → Bit f
one_bit s f e = record { at = grind (arith, told_field); narrow = grind (arith, told_field, value_lt) }

module _ (s : List ℕ) (held : Held) (map : List ℕ) (table : List (List ℕ)) (h : Held) (p : Option Plan) where
  flag_refused : {x : Refusal} → Err x ≡ told s (flag held) origin
      → Takes (read s (audio_mux_element held)) map table h p (Err x) map table h p
  unfolding audio_mux_element walk next told
  flag_refused {x} e = go (run s (flag held) 0 0) e
    where
      go : (o : Outcome ℕ) → Err x ≡ answered o
          → Takes (ended (8 * length s) (next kind_u 0 o (λ u at n. walk s (after_flag (eqb u 1) (config_held held)) at n)))
          map table h p (Err x) map table h p
      go (gave u at n) q = cc
      go (refused r) q = let z : x ≡ r.refusal = cc in (ap Err z, refl, refl, refl, refl)

  pub flag_short : {x : Refusal} → Err x ≡ told s (field Open 1) origin
      → Takes (read s (audio_mux_element held)) map table h p (Err x) map table h p
  unfolding use_same_stream_mux
  flag_short {x} e = flag_refused (sym (told_bind s origin (field Open 1) _ ∙ rw (sym e)))

  module _ (f : Read ℕ) (e : Ok f ≡ told s (field Open 1) origin) where
    flag_told : told s (flag held) origin
        ≡ cond (eqb f.value 0 || usable held) (Ok f) (Err (refused_at 4 0 f.next.fields))
    unfolding use_same_stream_mux
    flag_told =
        let b = one_bit s f e in
        let p : f.next.at - 1 ≡ 0 = omega (arith, b.at) in
        told_bind s origin (field Open 1) _
        ∙ rw (sym e) (told_need s f.next (eqb f.value 0 || usable held) 4 1 (give f.value) ∙ rw (told_give, p))

    went : (u : ℕ) → f.value ≡ u → (eqb u 0 || usable held) ≡ true
        → read s (audio_mux_element held)
        ≡ ended (8 * length s) (with_item (item fields kind_u 0 0 1)
        (walk s (after_flag (eqb u 1) (config_held held)) f.next.at f.next.fields))
    unfolding audio_mux_element
    went u q t =
        let b = one_bit s f e in
        let d : (eqb f.value 0 || usable held) ≡ true = rw q t in
        let g : Ok f ≡ told s (flag held) origin = sym (flag_told ∙ rw d) in
        let w = λ (v : ℕ). walk s (after_flag (eqb v 1) (config_held held)) f.next.at f.next.fields in
        ap (ended (8 * length s))
        (walk_gave s 0 0 kind_u (flag held) (λ u. after_flag (eqb u 1) (config_held held)) f.value f.next.at f.next.fields
        (ok_gave s (flag held) origin f g)
        ∙ ap (λ (p : ℕ). with_item (item fields kind_u 0 0 p) (w f.value)) (omega (arith, b.at))
        ∙ ap (λ (v : ℕ). with_item (item fields kind_u 0 0 1) (w v)) q)

    pub flag_sent : f.value ≡ 0 → read s (audio_mux_element held) ≡ sent_of s f.next
    unfolding sent_of after_flag
    flag_sent z = went 0 z refl

    pub flag_held : (f.value ≡ 0 → ⊥) → usable held ≡ true
        → read s (audio_mux_element held) ≡ behind_of s (config_held held) false f.next
    unfolding behind_of after_flag
    flag_held n u =
        let b = one_bit s f e in
        let z : f.value ≡ 1 = omega (arith, b.narrow) in
        went 1 z u

    pub flag_unheld : (f.value ≡ 0 → ⊥) → usable held ≡ false
        → Takes (read s (audio_mux_element held)) map table h p (Err (refused_at 4 0 f.next.fields)) map table h p
    flag_unheld n u = flag_refused (sym (flag_told ∙ rw (ne_eqb f.value 0 n, u)))

    -- the held configuration applies, and stays
    pub held_takes : (f.value ≡ 0 → ⊥) → {plan : Plan} → Some plan ≡ prepared_of held
        → {v : Result Accepted Refusal} {map' : List ℕ} → FinishPromise false s plan f.next map v map'
        → Takes (read s (audio_mux_element held)) map table h p v map' table h p
    held_takes n {plan} q {v} {map'} g =
        let d = prepared_some held plan q in
        let k = unsent (config_held held) v table h p in
        let t : Takes (read s (audio_mux_element held)) map table h p v map' (tabling false (config_held held) v table)
        (sending false (config_held held) v h) (preparing false (config_held held) v p) =
        rw (flag_held n d.usable_held) (behind_takes s (config_held held) f.next false d.valid d.is map table h p g) in
        (t.0, t.1, sym k.0 ∙ t.2, sym k.1 ∙ t.3, sym k.2 ∙ t.4)

-- ---- before any field

module _ (s : List ℕ) (held : Held) (map : List ℕ) (table : List (List ℕ)) (sent : Held) (p : Option Plan) where
  -- it is refused with this number, and nothing is changed
  abbrev pub Unread : ℕ → Type 0
  Unread k = Takes (answer s held (length map)) map table sent p (Err (unread k)) map table sent p

  pub map_small : length map < 4368 → Unread 1
  unfolding answer
  map_small h = rw (lt-ltb (length map) 4368 h) (refl, refl, refl, refl, refl)

  pub length_none : 4368 ≤ length map → length s ≡ 0 → Unread 2
  unfolding answer
  length_none h e = rw (le-ltb (length map) 4368 h, eq-eqb (length s) 0 e) (refl, refl, refl, refl, refl)

  pub length_over : 4368 ≤ length map → (length s ≡ 0 → ⊥) → 8191 < length s → Unread 2
  unfolding answer
  length_over h e l =
      rw (le-ltb (length map) 4368 h, ne_eqb (length s) 0 e, lt-ltb 8191 (length s) l) (refl, refl, refl, refl, refl)

  pub length_right : 4368 ≤ length map → (length s ≡ 0 → ⊥) → length s ≤ 8191
      → answer s held (length map) ≡ read s (audio_mux_element held)
  unfolding answer
  length_right h e l = rw (le-ltb (length map) 4368 h, ne_eqb (length s) 0 e, le-ltb 8191 (length s) l)

-- ---- the reply

-- where nothing was sent before
pub replied : (x : Answer Applied) (p p' : Option Plan) (sent : Held) (v : Result Accepted Refusal) → v ≡ verdict_of x
    → sent ≡ option_or (sent_by x) None → p' ≡ prepared_after p x
    → ◌≡◌ {A = PreparedReply} (record { verdict = v; sent = sent; prepared = p' }) (replied_by p x)
replied x p p' sent v e f g = rw (e, f, g, or_none (sent_by x)) refl
