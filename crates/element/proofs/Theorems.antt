-- The theorem of each claim of specs/Claims.antt: what the kernel proves of every element, under the two tests that
-- stand before the fields.
use mathlib.Core.Path.{◌≡◌, refl, ap, sym, ◌∙◌}
use mathlib.Core.Bool.{Bool, true, false, cond, ◌||◌}
use mathlib.Core.List.{List, []}
use Rattle.std.proofs.Common.{Some, None}
use Prim.Native.Nat.{ℕ, ◌+◌, ◌*◌, ◌≤◌}
use native.Mathlib.Omega.{arith}
use lib.Dec.{eqb, ltb}
use lib.ListN.{length}
use borrow.Author.Tests.{eqb-false, ltb-false, le-ltb, ne_eqb}
use Rattle.std.specs.Option.{option_or}
use Rattle.kernel.specs.Bits.{bit_at, value_at}
use Rattle.kernel.specs.declared.Window.TheVariants.{Open}
use Rattle.kernel.specs.Reading.{◌>>=◌, ◌>>◌, field, need, stop, gave, Fit, fits, short, fit, on_fit, run, Stop, give}
use Rattle.kernel.specs.Reading.{choose}
use Rattle.kernel.specs.Element.{fields, Item, item, Passage, with_item, next, walk, Answer, accepted, rejected, items_of}
use Rattle.kernel.specs.Element.{count_of, place_of, sum_passed, fell}
use Rattle.kernel.proofs.Theorems as kernel
use Rattle.kernel.proofs.Values.{value_one}
use Rattle.kernel.proofs.Tests.{neither}
use Rattle.kernel.proofs.Kept.{AnswerKept}
use Rattle.records.specs.declared.Record.{Record}
use Rattle.records.specs.Valid.{valid_of}
use Rattle.config.proofs.Given.{ReadOk}
use Rattle.element.specs.Held.{Held, usable}
use Rattle.element.specs.Mux.{kind_u, Applied, use_same_stream_mux, after_flag, audio_mux_element}
use Rattle.element.specs.Mux.{mux_slot_length_bytes, slot_of}
use Rattle.element.specs.Reply.{answer, held_after, reply_of}
use Rattle.element.specs.Claims.{AcceptedFits, ItemsTile, EachBitInOneItem, WidthsAddUp, EachByKind, MapInOrder}
use Rattle.element.specs.Claims.{StreamsAreFew, AlignmentIsShort, ContentByKind, CountIsBounded, PlaceIsInside}
use Rattle.element.specs.Claims.{FiguresAreSmall, SameAccepted, SameRefused, SentStandsAlone, RefusalIsNumbered}
use Rattle.element.specs.Claims.{SentHasItsPlaces, ReadOnce, FourIsNothingHeld, NothingHeldIsFour, SentIsValid}
use Rattle.element.specs.Claims.{HeldApplies, NextIsNot4, UsableStays, ReadWithOnce, SlotIsUnbounded}
use Rattle.element.specs.Claims.{SlotByLengthBytes, StreamsAreAll, HeldIsTold, ItemsAreFew}
use Rattle.element.proofs.Order.{element_in_order}
use Rattle.element.proofs.Streams.{streams_below}
use Rattle.element.proofs.Contents.{element_by_kind}
use Rattle.element.proofs.Alignment.{element_ends_short}
use Rattle.element.proofs.Productions.{Applies, AppliedOk, Refuses, answered}
use Rattle.element.proofs.Unbounded.{slot_unbounded}
use Rattle.element.proofs.Few.{few_items, all_streams}

pub slot_is_unbounded : SlotIsUnbounded
slot_is_unbounded = slot_unbounded

pub slot_by_length_bytes : SlotByLengthBytes
unfolding slot_of choose run
slot_by_length_bytes s at n fixed = kernel.bind_runs_as_parts mux_slot_length_bytes (λ v. give (8 * v)) s at n

pub streams_are_all : StreamsAreAll
streams_are_all = all_streams

pub held_is_told : HeldIsTold
held_is_told held (rejected r its) = refl
held_is_told held (accepted a its n) = go a.sent
  where
    go : (t : Bool) → option_or (cond {A = Held} t (Some a.config) None) held ≡ cond t (Some a.config) held
    go true = refl
    go false = refl

-- refusal 1, refusal 2, or what the fields come to
abbrev tested : Bool → Bool → Answer Applied → Answer Applied
tested small sized x = cond small (rejected (stop 1 0 0 0) []) (cond sized (rejected (stop 2 0 0 0) []) x)

-- what is accepted passed both tests
by_fields : (p q : Bool) (x : Answer Applied) (a : Applied) (its : List Item) (n : ℕ)
    → tested p q x ≡ accepted a its n → x ≡ accepted a its n
by_fields true q x a its n h = absurd (let z : ◌≡◌ {A = ℕ} 0 1 = cc in omega arith)
by_fields false true x a its n h = absurd (let z : ◌≡◌ {A = ℕ} 0 1 = cc in omega arith)
by_fields false false x a its n h = h

tests_passed : (p q : Bool) (x : Answer Applied) (a : Applied) (its : List Item) (n : ℕ)
    → tested p q x ≡ accepted a its n → (p ≡ false) × (q ≡ false)
tests_passed true q x a its n h = absurd (let z : ◌≡◌ {A = ℕ} 0 1 = cc in omega arith)
tests_passed false true x a its n h = absurd (let z : ◌≡◌ {A = ℕ} 0 1 = cc in omega arith)
tests_passed false false x a its n h = (refl, refl)

-- a length that passed the second test
sized_not : (n : ℕ) → eqb n 0 || ltb 8191 n ≡ false → (1 ≤ n) × (n ≤ 8191)
sized_not n h =
    let q = neither (eqb n 0) (ltb 8191 n) h in let z = eqb-false n 0 q.0 in (omega arith, ltb-false 8191 n q.1)

bounded : (p q : Bool) (x : Answer Applied) (bits : ℕ) → count_of x + sum_passed (items_of x) ≤ bits
    → count_of (tested p q x) + sum_passed (items_of (tested p q x)) ≤ bits
unfolding sum_passed
bounded true q x bits h = omega arith
bounded false true x bits h = omega arith
bounded false false x bits h = h

small_figures : (p q : Bool) (x : Answer Applied) → (q ≡ false → (place_of x ≤ 65528) × (count_of x ≤ 65528))
    → (place_of (tested p q x) ≤ 65528) × (count_of (tested p q x) ≤ 65528)
small_figures true q x h = (omega arith, omega arith)
small_figures false true x h = (omega arith, omega arith)
small_figures false false x h = h refl

inside : (p q : Bool) (x : Answer Applied) (bits : ℕ) → place_of x ≤ bits → place_of (tested p q x) ≤ bits
inside true q x bits h = omega arith
inside false true x bits h = omega arith
inside false false x bits h = h

by_kind : (p q : Bool) (x : Answer Applied) → EachByKind (items_of x) → EachByKind (items_of (tested p q x))
unfolding EachByKind
by_kind true q x h = tt
by_kind false true x h = tt
by_kind false false x h = h

-- both tests fall alike for x and y
alike : (p q r : Bool) (x y z : Answer Applied) → q ≡ r → tested p q x ≡ z → (x ≡ z → y ≡ z) → tested p r y ≡ z
alike true q r x y z e h f = h
alike false q true x y z e h f = rw e at h
alike false q false x y z e h f = f (rw e at h)

-- after a flag of 0, what follows a flag of 0 is all that counts
after_flag_law : (x : Fit) (f g : ℕ → ℕ → ℕ → Passage Applied) → f 0 1 1 ≡ g 0 1 1
    → next kind_u 0 (on_fit x 0 0 (gave 0 1 1)) f ≡ next kind_u 0 (on_fit x 0 0 (gave 0 1 1)) g
unfolding next on_fit
after_flag_law fits f g h = ap (with_item (item fields kind_u 0 0 1)) h
after_flag_law (short m) f g h = refl

sent : (s : List ℕ) (g h : Held) → bit_at s 0 ≡ 0 → walk s (audio_mux_element g) 0 0 ≡ walk s (audio_mux_element h) 0 0
unfolding walk audio_mux_element use_same_stream_mux run field need ◌>>=◌ ◌>>◌ after_flag
sent s g h e = let v : value_at s 0 1 ≡ 0 = rw value_one e in rw v (after_flag_law (fit Open (8 * length s) 1) _ _ refl)

-- a flag of 1 with nothing held
unheld : (s : List ℕ) (held : Held) → 1 ≤ length s → bit_at s 0 ≡ 1 → usable held ≡ false
    → walk s (audio_mux_element held) 0 0 ≡ fell (stop 4 0 1 1) []
unfolding walk audio_mux_element use_same_stream_mux run field need ◌>>=◌ ◌>>◌ on_fit fit next
unheld s held l e u = let v : value_at s 0 1 ≡ 1 = rw value_one e in rw (v, u, le-ltb (8 * length s) 1 (omega arith))

-- what can be used is held on, or another that was sent
stays_if : (held : Held) (t : Bool) (r : Record) → usable held ≡ true → Applies held t r
    → usable (cond t (Some r) held) ≡ true
stays_if held true r u h = h.valid
stays_if held false r u h = u

stays : (held : Held) (x : Answer Applied) (R : ℕ → Type 0) → usable held ≡ true → AnswerKept R (AppliedOk held) x
    → usable (held_after held x) ≡ true
stays held (accepted a its n) R u h = stays_if held a.sent a.config u h
stays held (rejected r its) R u h = u

-- sent or held, what applies is valid
is_valid : (held : Held) (t : Bool) (r : Record) → Applies held t r → valid_of r ≡ true
is_valid held true r h = h.valid
is_valid (Some g) false r h = rw h.0 h.1
is_valid None false r h = let z : false ≡ true = h.1 in cc

-- a valid record that was sent can be used
now_held : (held : Held) (t : Bool) (r : Record) → t ≡ true → valid_of r ≡ true
    → usable (cond t (Some r) held) ≡ true
now_held held true r e h = h
now_held held false r e h = let z : false ≡ true = e in cc

not_4 : (s : List ℕ) (held : Held) (room : ℕ) → usable held ≡ true → (r : Stop) (its : List Item)
    → answer s held room ≡ rejected r its → r.refusal.number ≡ 4 → ⊥
not_4 s held room u r its h e =
    let q : Refuses s held r.refusal.number = rw h at (answered s held room) in
    let z : true ≡ false = sym u ∙ (q.2 e).1 in
    let y : ◌≡◌ {A = ℕ} 0 1 = cc in
    omega arith

module _ (s : List ℕ) (held : Held) (room : ℕ) where
  abbrev small : Bool
  small = ltb room 4368

  abbrev sized : ℕ → Bool
  sized n = eqb n 0 || ltb 8191 n

  pub accepted_fits : AcceptedFits s held room
  unfolding answer
  accepted_fits a its n h =
      let p = tests_passed small (sized (length s)) _ a its n h in
      let l = sized_not (length s) p.1 in
      (ltb-false room 4368 p.0, l.0, l.1)

  pub items_tile : ItemsTile s held room
  unfolding answer
  items_tile a its n h =
      kernel.items_tile s (audio_mux_element held) a its n (by_fields small (sized (length s)) _ a its n h)

  pub each_bit_in_one_item : EachBitInOneItem s held room
  unfolding answer
  each_bit_in_one_item a its n h =
      kernel.each_bit_in_one_item s (audio_mux_element held) a its n (by_fields small (sized (length s)) _ a its n h)

  pub widths_add_up : WidthsAddUp s held room
  unfolding answer
  widths_add_up a its n h =
      kernel.widths_add_up s (audio_mux_element held) a its n (by_fields small (sized (length s)) _ a its n h)

  pub map_in_order : MapInOrder s held room
  unfolding answer
  map_in_order a its n h = element_in_order s held a its n (by_fields small (sized (length s)) _ a its n h)

  pub alignment_is_short : AlignmentIsShort s held room
  unfolding answer
  alignment_is_short a its n h = element_ends_short s held a its n (by_fields small (sized (length s)) _ a its n h)

  pub content_by_kind : ContentByKind s held room
  unfolding answer
  content_by_kind = by_kind small (sized (length s)) _ (element_by_kind s held)

  pub count_is_bounded : CountIsBounded s held room
  unfolding answer
  count_is_bounded =
      bounded small (sized (length s)) _ (8 * length s) (kernel.count_is_bounded s (audio_mux_element held))

  pub place_is_inside : PlaceIsInside s held room
  unfolding answer
  place_is_inside = inside small (sized (length s)) _ (8 * length s) (kernel.place_is_inside s (audio_mux_element held))

  pub figures_are_small : FiguresAreSmall s held room
  unfolding answer
  figures_are_small =
      small_figures small (sized (length s)) _ λ e.
      let l = sized_not (length s) e in (
        omega (arith, l.1, kernel.place_is_inside s (audio_mux_element held)),
        omega
            (arith, l.1, kernel.count_is_bounded s (audio_mux_element held)),
      )

  pub same_when_accepted : SameAccepted s held room
  unfolding answer
  same_when_accepted a its n h t long same =
      alike small (sized (length s)) (sized (length t)) _ _ _ (ap sized (sym long)) h
      (λ r. kernel.same_when_accepted s (audio_mux_element held) a its n r t long same)

  pub same_when_refused : SameRefused s held room
  unfolding answer
  same_when_refused r its h t long same =
      alike small (sized (length s)) (sized (length t)) _ _ _ (ap sized (sym long)) h
      (λ e. kernel.same_when_refused s (audio_mux_element held) r its e t long same)

  pub sent_stands_alone : SentStandsAlone s held room
  unfolding answer
  sent_stands_alone other e = rw (sent s held other e)

  -- what is known of a refusal, and of what applied
  refuses : (r : Stop) (its : List Item) → answer s held room ≡ rejected r its → Refuses s held r.refusal.number
  refuses r its h = rw h at (answered s held room)

  applies : (a : Applied) (its : List Item) (n : ℕ) → answer s held room ≡ accepted a its n → AppliedOk held a
  applies a its n h = rw h at (answered s held room)

  sent_ok : (a : Applied) (its : List Item) (n : ℕ) → answer s held room ≡ accepted a its n → a.sent ≡ true
      → ReadOk a.config
  sent_ok a its n h t = rw t at (applies a its n h)

  pub refusal_is_numbered : RefusalIsNumbered s held room
  refusal_is_numbered r its h = let q = refuses r its h in (q.0, q.1)

  pub four_is_nothing_held : FourIsNothingHeld s held room
  four_is_nothing_held r its h e = (refuses r its h).2 e

  pub nothing_held_is_four : NothingHeldIsFour s held room
  unfolding answer
  nothing_held_is_four hr lo hi e u =
      let b : ltb room 4368 ≡ false = le-ltb room 4368 hr in
      let c : eqb (length s) 0 ≡ false = ne_eqb (length s) 0 (λ q. omega arith) in
      let d : ltb 8191 (length s) ≡ false = le-ltb 8191 (length s) hi in
      rw (b, c, d, unheld s held lo e u)

  pub sent_is_valid : SentIsValid s held room
  sent_is_valid a its n h t = (sent_ok a its n h t).valid

  pub held_applies : HeldApplies s held room
  held_applies a its n h t = rw t at (applies a its n h)

  applied_valid : (a : Applied) (its : List Item) (n : ℕ) → answer s held room ≡ accepted a its n
      → valid_of a.config ≡ true
  applied_valid a its n h = is_valid held a.sent a.config (applies a its n h)

  pub items_are_few : ItemsAreFew s held room
  items_are_few a its n h = few_items a its (applied_valid a its n h) (map_in_order a its n h)

  pub usable_stays : UsableStays s held room
  usable_stays u = stays held (answer s held room) (Refuses s held) u (answered s held room)

  pub next_is_not_4 : NextIsNot4 s held room
  next_is_not_4 a its n h t other more r before k e =
      let u : usable (reply_of s held room).held ≡ true = ap (λ (z : Answer Applied). usable (held_after held z)) h
      ∙ now_held held a.sent a.config t (sent_is_valid a its n h t) in
      not_4 other (reply_of s held room).held more u r before k e

  pub streams_are_few : StreamsAreFew s held room
  streams_are_few a its n h = streams_below a its (applied_valid a its n h) (map_in_order a its n h)

  pub sent_has_its_places : SentHasItsPlaces s held room
  sent_has_its_places a its n h t = let q = sent_ok a its n h t in (q.layers, q.streams)

-- ---- one result

pub read_once : ReadOnce
read_once s held x y map map₁ map₂ p q = (p.0 ∙ sym q.0, p.1 ∙ sym q.1)

pub read_with_once : ReadWithOnce
read_with_once s held x y map map₁ map₂ table table₁ table₂ p q =
    (p.0.0 ∙ sym q.0.0, p.0.1 ∙ sym q.0.1, p.1 ∙ sym q.1)
