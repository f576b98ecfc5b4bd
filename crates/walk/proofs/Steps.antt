-- The walk of an element, step by step: each step is an equation of how far it comes and of the map that it leaves.
use Rattle.std.proofs.Common.{◌≡◌, refl, ap, sym, ◌∙◌, ℕ, suc, ◌+◌, ◌-◌, ◌*◌, ◌≤◌, List, [], ◌∷◌, ◌++◌, length, min, max, Result, Ok, Err, add-zero, arith, length-append}
use Rattle.std.proofs.lemmas.List.Edits.{sets}
use Rattle.kernel.specs.declared.Window.TheVariants.{Open}
use Rattle.kernel.specs.declared.Cursor.{Cursor}
use Rattle.kernel.specs.declared.Read.{Read}
use Rattle.kernel.specs.declared.Refusal.{Refusal}
use Rattle.kernel.specs.Reading.{Reading, pass, Outcome, gave, refused, Fit, fits, short, fit, on_fit, run, Stands}
use Rattle.kernel.specs.Answer.{answer, told, reached}
use Rattle.kernel.specs.Element.{Passing, passed, Item, item, part_item, Element, done, part, over, spot}
use Rattle.kernel.specs.Element.{follow, Passage, came, fell, with_item, next, over_fit, walk}
use Rattle.kernel.proofs.Lists.{sets-append}
use Rattle.kernel.proofs.Steps.{steps as reading_steps}
use Rattle.kernel.proofs.Run.{extent, run_forward}
use Rattle.kernel.proofs.Walk.{under, onward, walk_follow}
use Rattle.kernel.proofs.Map.{Good, good}
use Rattle.element.specs.Reply.{numbers}
use Rattle.element.proofs.Numbers.{length_numbers, numbers_append}
use Rattle.walk.specs.declared.Walked.{Walked}
use Rattle.walk.specs.Parts.{come, made, walked, mapped}

-- an empty map keeps nothing
pub sets_none : (map : List ℕ) (p : ℕ) (xs : List ℕ) → length map ≡ 0 → sets map p xs ≡ map
sets_none [] p [] h = refl
sets_none [] p (x ∷ xs) h = sets_none [] (suc p) xs h
sets_none (m ∷ map) p xs h = absurd (omega arith)

-- by an answer, one thing or another
abbrev pub by_answer : {A E X : Type 0} → Result A E → (A → X) → (E → X) → X
by_answer (Ok a) f g = f a
by_answer (Err e) f g = g e

come_more : {A : Type 0} (k : ℕ) (it : Item) (x : Passage A) → come k (with_item it x) ≡ come (k + 1) x
unfolding with_item
come_more k it (came a its at n) = let e : k + length (it ∷ its) ≡ k + 1 + length its = omega arith in rw e
come_more k it (fell r its) = refl

made_more : {A : Type 0} (it : Item) (x : Passage A) → made (with_item it x) ≡ it ∷ made x
unfolding with_item
made_more it (came a its at n) = refl
made_more it (fell r its) = refl

made_under : {B : Type 0} (its : List Item) (y : Passage B) → made (under its y) ≡ its ++ made y
unfolding under
made_under its (came a js at n) = refl
made_under its (fell r js) = refl

-- the map behind one item more
stored_more : (map : List ℕ) (k : ℕ) (it : Item) (its : List Item)
    → sets map (4 * k) (numbers (it ∷ its))
    ≡ sets (sets map (4 * k) (it.kind ∷ it.stream ∷ it.first ∷ it.width ∷ [])) (4 * (k + 1)) (numbers its)
unfolding numbers
stored_more map k it its =
    sym (sets-append (it.kind ∷ it.stream ∷ it.first ∷ it.width ∷ []) (numbers its) map (4 * k) (4 * (k + 1)) (omega arith))

module _ (s : List ℕ) (w : Walked) where
  pub walked_done : {A : Type 0} (a : A) → walked s (done a) w ≡ Ok w
  unfolding walked walk
  walked_done a = rw (add-zero w.items)

  pub mapped_done : {A : Type 0} (a : A) (map : List ℕ) → mapped s (done a) w map ≡ map
  unfolding mapped walk numbers
  mapped_done a map = refl

  pub walked_spot : {A : Type 0} (f : ℕ → Element A) → walked s (spot f) w ≡ walked s (f w.cursor.at) w
  unfolding walked walk
  walked_spot f = refl

  pub mapped_spot : {A : Type 0} (f : ℕ → Element A) (map : List ℕ) → mapped s (spot f) w map ≡ mapped s (f w.cursor.at) w map
  unfolding mapped walk
  mapped_spot f map = refl

-- behind a part that is read, an item more
module _ {A B : Type 0} (s : List ℕ) (w : Walked) (kind : ℕ) (m : Reading B) (f : B → Element A) where
  pub walked_part : walked s (part B kind m f) w
      ≡ by_answer (told s m w.cursor) (λ r. walked s (f r.value) (record { items = w.items + 1; cursor = r.next })) (λ x. Err x)
  unfolding walked walk told next
  walked_part = go (run s m w.cursor.at w.cursor.fields)
    where
      go : (o : Outcome B)
          → come w.items (next kind w.cursor.at o (λ b at' n'. walk s (f b) at' n'))
          ≡ by_answer (answer o) (λ r. come (w.items + 1) (walk s (f r.value) r.next.at r.next.fields)) (λ x. Err x)
      go (gave b at n) = come_more w.items (part_item kind w.cursor.at at) (walk s (f b) at n)
      go (refused x) = refl

  pub mapped_part : (map : List ℕ) → mapped s (part B kind m f) w map
      ≡ by_answer (told s m w.cursor)
      (λ r. mapped s (f r.value) (record { items = w.items + 1; cursor = r.next })
      (sets map (4 * w.items) (kind ∷ 0 ∷ w.cursor.at ∷ (r.next.at - w.cursor.at) ∷ []))) (λ x. map)
  unfolding mapped walk told next numbers
  mapped_part map = go (run s m w.cursor.at w.cursor.fields)
    where
      go : (o : Outcome B)
          → sets map (4 * w.items) (numbers (made (next kind w.cursor.at o (λ b at' n'. walk s (f b) at' n'))))
          ≡ by_answer (answer o) (λ r. sets (sets map (4 * w.items) (kind ∷ 0 ∷ w.cursor.at ∷ (r.next.at - w.cursor.at) ∷ []))
          (4 * (w.items + 1)) (numbers (made (walk s (f r.value) r.next.at r.next.fields)))) (λ x. map)
      go (gave b at n) =
          ap (λ (its : List Item). sets map (4 * w.items) (numbers its))
          (made_more (part_item kind w.cursor.at at) (walk s (f b) at n))
          ∙ stored_more map w.items (part_item kind w.cursor.at at) (made (walk s (f b) at n))
      go (refused x) = refl

-- an item that is passed over
module _ {A : Type 0} (s : List ℕ) (w : Walked) (x : Passing) (kind stream width : ℕ) (a : A) where
  pub walked_over : walked s (over x kind stream width (done a)) w
      ≡ by_answer (reached (told s (pass Open width) w.cursor)) (λ c. Ok (record { items = w.items + 1; cursor = c })) (λ x. Err x)
  unfolding walked walk told pass run over_fit on_fit with_item
  walked_over = go (fit Open (8 * length s) (w.cursor.at + width))
    where
      it : Item
      it = item (passed x) kind stream w.cursor.at width

      go : (f : Fit)
          → come w.items (over_fit f w.cursor.at w.cursor.fields (with_item it (came a [] (w.cursor.at + width) w.cursor.fields)))
          ≡ by_answer (reached (answer (on_fit f w.cursor.at w.cursor.fields (gave (tt {0}) (w.cursor.at + width) w.cursor.fields))))
          (λ c. Ok (record { items = w.items + 1; cursor = c })) (λ x. Err x)
      go fits = refl
      go (short m) = refl

  pub mapped_over : (map : List ℕ) → mapped s (over x kind stream width (done a)) w map
      ≡ by_answer (reached (told s (pass Open width) w.cursor))
      (λ c. sets map (4 * w.items) (kind ∷ stream ∷ w.cursor.at ∷ width ∷ [])) (λ x. map)
  unfolding mapped walk told pass run over_fit on_fit with_item numbers
  mapped_over map = go (fit Open (8 * length s) (w.cursor.at + width))
    where
      it : Item
      it = item (passed x) kind stream w.cursor.at width

      go : (f : Fit)
          → sets map (4 * w.items) (numbers (made (over_fit f w.cursor.at w.cursor.fields
          (with_item it (came a [] (w.cursor.at + width) w.cursor.fields)))))
          ≡ by_answer (reached (answer (on_fit f w.cursor.at w.cursor.fields (gave (tt {0}) (w.cursor.at + width) w.cursor.fields))))
          (λ c. sets map (4 * w.items) (kind ∷ stream ∷ w.cursor.at ∷ width ∷ [])) (λ x. map)
      go fits = refl
      go (short m) = refl

come_under : {B : Type 0} (k : ℕ) (its : List Item) (y : Passage B) → come k (under its y) ≡ come (k + length its) y
unfolding under
come_under k its (came a js at n) =
    let e : k + length (its ++ js) ≡ k + length its + length js = omega (arith, length-append its js) in rw e
come_under k its (fell r js) = refl

stored_under : {B : Type 0} (map : List ℕ) (k : ℕ) (its : List Item) (y : Passage B)
    → sets map (4 * k) (numbers (made (under its y)))
    ≡ sets (sets map (4 * k) (numbers its)) (4 * (k + length its)) (numbers (made y))
stored_under map k its y =
    ap (λ (js : List Item). sets map (4 * k) (numbers js)) (made_under its y)
    ∙ ap (sets map (4 * k)) (numbers_append its (made y))
    ∙ sym (sets-append (numbers its) (numbers (made y)) map (4 * k) (4 * (k + length its)) (omega (arith, length_numbers its)))

-- one element after another
module _ {B : Type 0} (s : List ℕ) (w : Walked) (e : Element (Unit {0})) (f : Unit {0} → Element B) where
  abbrev after : ℕ → ℕ → Passage B
  after at n = walk s (f tt) at n

  pub walked_follow : walked s (follow e f) w ≡ by_answer (walked s e w) (λ v. walked s (f tt) v) (λ x. Err x)
  unfolding walked onward
  walked_follow = ap (come w.items) (walk_follow s f e w.cursor.at w.cursor.fields) ∙ go (walk s e w.cursor.at w.cursor.fields)
    where
      go : (p : Passage (Unit {0}))
          → come w.items (onward p (λ a at n. walk s (f a) at n))
          ≡ by_answer (come w.items p) (λ v. come v.items (after v.cursor.at v.cursor.fields)) (λ x. Err x)
      go (came a its at n) = come_under w.items its (after at n)
      go (fell r its) = refl

  pub mapped_follow : (map : List ℕ) → mapped s (follow e f) w map
      ≡ by_answer (walked s e w) (λ v. mapped s (f tt) v (mapped s e w map)) (λ x. mapped s e w map)
  unfolding walked mapped onward
  mapped_follow map =
      ap (λ (p : Passage B). sets map (4 * w.items) (numbers (made p))) (walk_follow s f e w.cursor.at w.cursor.fields)
      ∙ go (walk s e w.cursor.at w.cursor.fields)
    where
      go : (p : Passage (Unit {0}))
          → sets map (4 * w.items) (numbers (made (onward p (λ a at n. walk s (f a) at n))))
          ≡ by_answer (come w.items p)
          (λ v. sets (sets map (4 * w.items) (numbers (made p))) (4 * v.items) (numbers (made (after v.cursor.at v.cursor.fields))))
          (λ x. sets map (4 * w.items) (numbers (made p)))
      go (came a its at n) = stored_under map w.items its (after at n)
      go (fell r its) = refl

-- the same, and shown of it that a reader may stand at its cursor
abbrev pub standing : List ℕ → Result Walked Refusal → Result Walked Refusal
standing s (Ok w) =
    let at = min w.cursor.at (8 * length s) in
    Ok (record { items = w.items; cursor = record { at = at; fields = min w.cursor.fields at } })
standing s (Err x) = Err x

pub walked_stands : {A : Type 0} (s : List ℕ) (w : Walked) (e : Element A) → Stands s w.cursor
    → walked s e w ≡ standing s (walked s e w)
unfolding walked
walked_stands {A} s w e h =
    go (walk s e w.cursor.at w.cursor.fields) (good s e w.cursor.at w.cursor.fields)
  where
    go : (p : Passage A) → Good s w.cursor.at w.cursor.fields p → come w.items p ≡ standing s (come w.items p)
    go (came a its at n) g =
        let f = g.few (omega arith) in
        let i : min at (8 * length s) ≡ at = omega arith in
        let j : min n at ≡ n = omega arith in
        rw (i, j)
    go (fell r its) g = refl

pub ruleset steps =
    (reading_steps, walked_done, mapped_done, walked_spot, mapped_spot, walked_part, mapped_part, walked_over, mapped_over, walked_follow, mapped_follow, walked_stands)

-- the same answer, of which it shows that a reading goes forward
abbrev pub ahead : {A : Type 0} → ℕ → Result (Read A) Refusal → Result (Read A) Refusal
ahead at (Ok r) = Ok (record { value = r.value; next = record { at = max at r.next.at; fields = r.next.fields } })
ahead at (Err x) = Err x

pub told_ahead : {A : Type 0} (s : List ℕ) (m : Reading A) (c : Cursor) → told s m c ≡ ahead c.at (told s m c)
unfolding told
told_ahead {A} s m c = go (run s m c.at c.fields) (run_forward s m c.at c.fields)
  where
    go : (o : Outcome A) → c.at ≤ extent o → answer o ≡ ahead c.at (answer o)
    go (gave a at n) h = let e : max c.at at ≡ at = omega arith in rw e
    go (refused x) h = refl

pub ruleset part_steps = (steps, told_ahead)
