-- Laws of the step of a capture, by what the hunt and the reading promise.
use Rattle.std.proofs.Common.{◌≡◌, refl, ap, sym, ◌∙◌, subst, ℕ, ◌+◌, ◌-◌, ◌%◌, ◌≤◌, ◌<◌, List, length, Option, Some, None, Result, Ok, Err, arith}
use Rattle.kernel.specs.declared.Refusal.{Refusal}
use Rattle.kernel.specs.Element.{Answer}
use Rattle.sync.specs.declared.Hunted.{Hunted}
use Rattle.sync.specs.Sync.{hunt_of, element_at}
use Rattle.element.specs.Held.{Held}
use Rattle.element.specs.Mux.{Applied}
use Rattle.element.specs.Reply.{answer, verdict_of, sent_by, map_after, table_after}
use Rattle.element.proofs.Theorems.{held_is_told}
use Rattle.walk.specs.declared.Plan.{Plan}
use Rattle.reader.specs.declared.PreparedReply.{PreparedReply}
use Rattle.reader.specs.Prepared.{prepared_of, replied_by}
use Rattle.reader.proofs.Preparing.{then_prepared}
use Rattle.capture.specs.declared.Mark.{Mark}
use Rattle.capture.specs.declared.Holding.{Holding}
use Rattle.capture.specs.declared.Step.{Step}
use Rattle.capture.specs.Frames.{Point, Next, frame, none, behind, seen_at, next_by, next_of, mark_of}
use Rattle.capture.specs.Frames.{holding_of, point_of, Whole, point_then, step_over, step_of, holding_behind, holding_then}
use Rattle.capture.specs.Frames.{map_by, table_by, Took}
use Rattle.capture.specs.Promises.{AdvancePromise}
use Rattle.capture.proofs.Frames.{OfNext, next_inside, From, next_from}

-- of nothing held nothing is prepared
pub nothing : prepared_of None ≡ None
unfolding prepared_of
nothing = refl

-- the step to a frame with this reply to its element
abbrev pub step_with : Mark → ℕ → ℕ → PreparedReply → Step
step_with from p n r = record {
  place = p;
  size = n;
  verdict = r.verdict;
  sent = r.sent;
  next = record { at = p + 3 + n; number = from.number % 65536 + 1; prepared = r.prepared };
}

pub held_at : (c : Point) {from : Mark} → from ≡ mark_of c → from.prepared ≡ prepared_of c.held
held_at c mark = ap (λ (m : Mark). m.prepared) mark

pub whole_mark : (h : Holding) → Whole h → h.mark ≡ mark_of (point_of h)
whole_mark h w = ap (λ (z : Holding). z.mark) w

module _ (s : List ℕ) (room : ℕ) (c : Point) {from : Mark} (mark : from ≡ mark_of c) where
  hunted_from : {h : Result Hunted Refusal} → hunt_of s from.at ≡ h → hunt_of s c.at ≡ h
  hunted_from e = ap (λ (m : Mark). hunt_of s m.at) (sym mark) ∙ e

  pub none_next : {x : Refusal} → hunt_of s from.at ≡ Err x → next_of s room c ≡ none
  none_next e = ap (next_by s room c) (hunted_from e)

  module _ (h : Hunted) (found : hunt_of s from.at ≡ Ok h) {el : List ℕ} (at : el ≡ element_at s h.place h.size) where
    next_found : next_of s room c ≡ frame (seen_at s room c h.place h.size)
    next_found = ap (next_by s room c) (hunted_from found)

    seen : Answer Applied
    seen = answer (element_at s h.place h.size) c.held room

    step_seen : step_with (mark_of c) h.place h.size (replied_by (prepared_of c.held) seen)
        ≡ step_over (seen_at s room c h.place h.size)
    unfolding seen
    step_seen =
        ap
        (λ (z : Option Plan). step_with (mark_of c) h.place h.size
        (record { verdict = verdict_of seen; sent = sent_by seen; prepared = z }))
        (then_prepared c.held seen)

    pub step_is : (map : List ℕ) (table : List (List ℕ)) {r : PreparedReply} {map' : List ℕ} {table' : List (List ℕ)}
        → let y = answer el c.held room in
        (r ≡ replied_by from.prepared y) × (map' ≡ map_after map y) × (table' ≡ table_after table y)
        → let x = next_of s room c in
        (Some (step_with from h.place h.size r) ≡ step_of x) × (map' ≡ map_by map x) × (table' ≡ table_by table x)
    unfolding seen
    step_is map table l =
        let k = rw (at, mark) at l in
        rw (next_found, mark) (ap Some (ap (step_with (mark_of c) h.place h.size) k.0 ∙ step_seen), k.1, k.2)

module _ (s : List ℕ) (room : ℕ) (c : Point) (map : List ℕ) (table : List (List ℕ)) where
  took_by : {map' : List ℕ} {table' : List (List ℕ)} {r : Step} (x : Next) → next_of s room c ≡ x
      → Some r ≡ step_of x → map' ≡ map_by map x → table' ≡ table_by table x
      → Took s room c map map' table table' r
  took_by (frame m) q e f g =
      let w = subst (OfNext (From c)) q (next_from s room c) in
      record {
        seen = m;
        is = q;
        number = w.0;
        before = w.1;
        step = cc;
        map_after_law = f;
        table_after_law = g;
      }
  took_by none q e f g = cc

  none_by : (x : Next) → next_of s room c ≡ x → None ≡ step_of x → next_of s room c ≡ none
  none_by (frame m) q e = cc
  none_by none q e = q

  module _ {from : Mark} (mark : from ≡ mark_of c) {map' : List ℕ} {table' : List (List ℕ)} (l : length map ≡ room) where
    -- a frame was taken,
    pub took : {r : Step} → AdvancePromise s from map table (Some r) map' table' → Took s room c map map' table table' r
    took a = let b = rw l at (a c mark) in took_by (next_of s room c) refl b.0 b.1 b.2

    -- or there was none
    pub took_none : AdvancePromise s from map table None map' table' → next_of s room c ≡ none
    took_none a = let b = rw l at (a c mark) in none_by (next_of s room c) refl b.0

-- what is held follows the mark
follows : (c : Point) (x : Next) → OfNext (From c) x
    → holding_then (holding_of c) (step_of x) ≡ holding_of (point_then c x)
follows c (frame m) w =
    ap (λ (h : Held). record { mark = mark_of (behind m); held = h })
    (rw w.1 (held_is_told c.held m.reading))
follows c none w = refl

pub held_follows : (s : List ℕ) (room : ℕ) (c : Point) → let x = next_of s room c in
    holding_then (holding_of c) (step_of x) ≡ holding_of (point_then c x)
held_follows s room c = follows c (next_of s room c) (next_from s room c)

-- behind the frame that a step took
module _ {s : List ℕ} {room : ℕ} {c : Point} {map map' : List ℕ} {table table' : List (List ℕ)} {r : Step}
    (t : Took s room c map map' table table' r) where
  -- the capture is come further,
  pub took_further : (c.at < r.next.at) × (r.next.at ≤ length s)
  took_further =
      let i = next_inside s room c t.seen t.is in rw t.step (omega (arith, i.0, i.1), i.2)

  pub mark_then : r.next ≡ mark_of (behind t.seen)
  mark_then = ap (λ (y : Step). y.next) t.step

  -- so a loop over steps ends,
  pub nearer : {from to : Mark} → from ≡ mark_of c → to ≡ mark_of (behind t.seen)
      → length s - to.at < length s - from.at
  nearer p q =
      let e = ap (λ (m : Mark). m.at) p in
      let f = ap (λ (m : Mark). m.at) (q ∙ sym mark_then) in
      omega (arith, took_further, e, f)

  -- and what is kept with what is held leads to the point there
  module _ (from : Holding) (e : from.held ≡ c.held) {h : Holding} (b : h ≡ holding_behind from r) where
    holding_then_law : h ≡ holding_of (behind t.seen)
    holding_then_law = b ∙ rw (t.step, e) (follows c (frame t.seen) (t.number, t.before))

    pub whole_then : Whole h
    whole_then = rw holding_then_law

    pub point_then_law : point_of h ≡ behind t.seen
    point_then_law = ap point_of holding_then_law
