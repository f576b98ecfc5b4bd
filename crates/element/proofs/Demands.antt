-- The theorem of each claim of specs/Demands.antt: the items of the answer are those that the map shows.
use mathlib.Core.Path.{◌≡◌, refl, ap, sym, ◌∙◌}
use mathlib.Core.Bool.{Bool, true, false, cond}
use mathlib.Core.List.{List, ◌++◌}
use Rattle.std.proofs.Common.{Some, Err}
use Prim.Native.Nat.{ℕ, ◌+◌, ◌*◌, ◌≤◌, ◌<◌}
use native.Mathlib.Omega.{arith}
use lib.ListN.{length, drop}
use Rattle.kernel.specs.declared.Refusal.{Refusal}
use Rattle.kernel.specs.Bits.{bit_at}
use Rattle.kernel.specs.Reading.{Stop}
use Rattle.kernel.specs.Element.{Item, Answer, accepted, rejected, items_of, InClosed, sum_passed}
use Rattle.records.specs.Table.{table_of}
use Rattle.element.specs.Held.{Held}
use Rattle.element.specs.declared.Accepted.{Accepted}
use Rattle.element.specs.Reply.{accepts}
use Rattle.element.specs.Mux.{Applied}
use Rattle.element.specs.Reply.{answer, numbers, verdict_of, held_after, map_after, table_after}
use Rattle.element.specs.Left.{shown, Left, left_by}
use Rattle.element.specs.Claims.{EachByKind}
use Rattle.element.specs.Demands.{PromisedIsLeft, ReadIsLeft, AcceptedFits, ShownTile, ShownOnce, ShownCount}
use Rattle.element.specs.Demands.{SentIsHeld, HeldStays, UsableStays, NextIsNot4, RefusedCount, SameLeft}
use Rattle.element.specs.Demands.{SameLeftRefused, RefusedLeft}
use Rattle.element.proofs.Numbers.{shown_numbers}
use Rattle.element.proofs.Theorems.{accepted_fits, items_tile, each_bit_in_one_item, content_by_kind}
use Rattle.element.proofs.Theorems.{count_is_bounded, place_is_inside, same_when_accepted, same_when_refused}
use Rattle.element.proofs.Theorems.{refusal_is_numbered, sent_is_valid, held_applies, usable_stays}
use Rattle.element.proofs.Theorems.{next_is_not_4}

-- an accepted answer, whose items the map then shows
record Shows (x : Answer Applied) (map : List ℕ) (k n : ℕ) (sent : Bool) : Type 0 where
  applies : Applied
  items : List Item
  is : x ≡ accepted applies items n
  sends : applies.sent ≡ sent
  shows : shown k (map_after map x) ≡ items

shows : (x : Answer Applied) (map : List ℕ) (k n : ℕ) (sent : Bool) → EachByKind (items_of x)
    → verdict_of x ≡ accepts k n sent → Shows x map k n sent
shows (accepted a its m) map k n sent h e =
    let v : ◌≡◌ {A = Accepted} (record { items = length its; fields = m; sent = a.sent })
    (record { items = k; fields = n; sent = sent }) = cc in
    let p : length its ≡ k = ap (λ (x : Accepted). x.items) v in
    let q : m ≡ n = ap (λ (x : Accepted). x.fields) v in
    record {
      applies = a;
      items = its;
      is = ap (accepted a its) q;
      sends = ap (λ (x : Accepted). x.sent) v;
      shows = ap
          (λ (j : ℕ). shown j (numbers its ++ drop (4 * length its) map)) (sym p)
          ∙ shown_numbers its (drop (4 * length its) map) h;
    }
shows (rejected r its) map k n sent h e = absurd (let z : ◌≡◌ {A = ℕ} 0 1 = cc in omega arith)

-- a refused answer
record Stops (x : Answer Applied) (z : Refusal) : Type 0 where
  stop : Stop
  passed : List Item
  is : x ≡ rejected stop passed
  tells : stop.refusal ≡ z

stops : (x : Answer Applied) (z : Refusal) → verdict_of x ≡ Err z → Stops x z
stops (accepted a its m) z e = absurd (let y : ◌≡◌ {A = ℕ} 0 1 = cc in omega arith)
stops (rejected r its) z e = record { stop = r; passed = its; is = refl; tells = cc }

pub promised_is_left : PromisedIsLeft
promised_is_left s held map table r map' table' p = λ i. record { reply = p.0.0 i; map = p.0.1 i; table = p.1 i }

pub read_is_left : ReadIsLeft
read_is_left s held map table r map' p = p

module _ (s : List ℕ) (held : Held) (map : List ℕ) (table : List (List ℕ)) where
  -- all as it stood, beside a refusal
  abbrev stood : Refusal → Left
  stood x = record { reply = record { verdict = Err x; held = held }; map = map; table = table }

  at_hand : (k n : ℕ) (sent : Bool) → verdict_of (answer s held (length map)) ≡ accepts k n sent
      → Shows (answer s held (length map)) map k n sent
  at_hand k n sent e = shows (answer s held (length map)) map k n sent (content_by_kind s held (length map)) e

  pub left_fits : AcceptedFits s held map table
  left_fits k n sent e = let h = at_hand k n sent e in accepted_fits s held (length map) _ _ _ h.is

  pub shown_tile : ShownTile s held map table
  shown_tile k n sent e = let h = at_hand k n sent e in rw h.shows (items_tile s held (length map) _ _ _ h.is)

  pub shown_once : ShownOnce s held map table
  shown_once k n sent e =
      let h = at_hand k n sent e in rw h.shows (each_bit_in_one_item s held (length map) _ _ _ h.is)

  pub shown_count : ShownCount s held map table
  shown_count k n sent e =
      let h = at_hand k n sent e in rw h.shows (rw h.is at (count_is_bounded s held (length map)))

  -- the answer itself is the same
  pub same_answer : (k n : ℕ) (sent : Bool) → verdict_of (answer s held (length map)) ≡ accepts k n sent
      → (t : List ℕ) → length t ≡ length s
      → ((i : ℕ) → i < 8 * length s → ¬ InClosed (shown k (map_after map (answer s held (length map)))) i
      → bit_at t i ≡ bit_at s i)
      → answer t held (length map) ≡ answer s held (length map)
  same_answer k n sent e t long same =
      let h = at_hand k n sent e in
      same_when_accepted s held (length map) _ _ _ h.is t long (rw h.shows at same) ∙ sym h.is

  pub same_left : SameLeft s held map table
  same_left k n sent e t long same = ap (left_by held map table) (same_answer k n sent e t long same)

  pub same_left_refused : SameLeftRefused s held map table
  same_left_refused r its e t long same =
      ap (left_by held map table) (same_when_refused s held (length map) r its e t long same ∙ sym e)

  now_held : (k n : ℕ) → verdict_of (answer s held (length map)) ≡ accepts k n true
      → (h : Shows (answer s held (length map)) map k n true)
      → held_after held (answer s held (length map)) ≡ Some h.applies.config
  now_held k n e h =
      ap (held_after held) h.is ∙ ap
      (λ (t : Bool). cond t (Some h.applies.config) held) h.sends

  now_table : (k n : ℕ) (h : Shows (answer s held (length map)) map k n true)
      → table_after table (answer s held (length map))
      ≡ table_of h.applies.config.layers h.applies.config.programs
  now_table k n h =
      ap (table_after table) h.is
      ∙ ap (λ (t : Bool). cond t (table_of h.applies.config.layers h.applies.config.programs) table)
      h.sends

  pub sent_is_held : SentIsHeld s held map table
  sent_is_held k n e =
      let h = at_hand k n true e in
      rw (now_held k n e h, now_table k n h) (refl, sent_is_valid s held (length map) _ _ _ h.is h.sends, refl)

  pub held_stays : HeldStays s held map table
  held_stays k n e =
      let h = at_hand k n false e in (
        (held_applies s held (length map) _ _ _ h.is h.sends).1,
        ap (held_after held) h.is ∙ ap
            (λ (t : Bool). cond t (Some h.applies.config) held) h.sends,
        ap (table_after table) h.is
            ∙ ap (λ (t : Bool). cond t (table_of h.applies.config.layers h.applies.config.programs) table)
            h.sends,
      )

  pub usable_left : UsableStays s held map table
  usable_left = usable_stays s held (length map)

  pub next_left_is_not_4 : NextIsNot4 s held map table
  next_left_is_not_4 k n e t more rows x f =
      let h = at_hand k n true e in
      let z = stops (answer t (held_after held (answer s held (length map))) (length more)) x f in
      λ g. next_is_not_4 s held (length map) _ _ _ h.is h.sends t (length more) _ _ z.is
      (ap (λ (y : Refusal). y.number) z.tells ∙ g)

  pub refused_count : RefusedCount s held map table
  refused_count r its e = rw e at (count_is_bounded s held (length map))

  pub refused_left : RefusedLeft s held map table
  refused_left x e =
      let h = stops (answer s held (length map)) x e in
      let n : (1 ≤ x.number) × (x.number ≤ 15) =
      rw h.tells at (refusal_is_numbered s held (length map) _ _ h.is) in
      let c : h.stop.refusal.fields + sum_passed h.passed ≤ 8 * length s =
      rw h.is at (count_is_bounded s held (length map)) in
      let p : h.stop.refusal.place ≤ 8 * length s = rw h.is at (place_is_inside s held (length map)) in (
        n.0,
        n.1,
        rw h.tells at p,
        let r : h.stop.refusal.fields
            ≤ 8 * length s = omega (arith, c) in rw h.tells at r,
        ap (left_by held map table) h.is
            ∙ ap (λ (z : Refusal). stood z) h.tells,
      )
