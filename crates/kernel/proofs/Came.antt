-- What is shown of the answer and the items of a walk that comes through, step by step.
use mathlib.Core.Path.{◌≡◌}
use mathlib.Core.List.{List, ◌∷◌, ◌++◌}
use Prim.Native.Nat.{ℕ, ◌+◌, ◌*◌}
use lib.ListN.{length}
use Rattle.kernel.specs.Reading.{Reading, Outcome, gave, refused, run, after}
use Rattle.kernel.specs.Element.{Passing, passed, Item, item, part_item, Element, part, over, follow, Passage}
use Rattle.kernel.specs.Element.{came, fell, with_item, walk, accepted, read}
use Rattle.kernel.proofs.Induction.{by_part, by_over}
use Rattle.kernel.proofs.Map.{came_end}
use Rattle.kernel.proofs.Walk.{under, onward, walk_follow}

-- an answer of which R holds, or a refusal
unfoldable pub Gave : {A : Type 0} → (A → Type 0) → Outcome A → Type 0
Gave R (gave a at n) = R a
Gave R (refused r) = Unit {0}

-- an answer and items of which P holds, or a refusal
unfoldable pub Came : {A : Type 0} → (A → List Item → Type 0) → Passage A → Type 0
Came P (came a its at n) = P a its
Came P (fell r its) = Unit {0}

pub gave_any : {A : Type 0} (o : Outcome A) → Gave (λ _. Unit {0}) o
unfolding Gave
gave_any (gave a at n) = tt
gave_any (refused r) = tt

pub gave_after : {A B : Type 0} (R : A → Type 0) (o : Outcome B) (f : B → ℕ → ℕ → Outcome A)
    → ((b : B) (at n : ℕ) → Gave R (f b at n)) → Gave R (after o f)
unfolding after Gave
gave_after R (gave b at n) f h = h b at n
gave_after R (refused r) f h = tt

module _ {A : Type 0} where
  pub came_any : (x : Passage A) → Came (λ _ _. Unit {0}) x
  unfolding Came
  came_any (came a its at n) = tt
  came_any (fell r its) = tt

  pub came_so : {P Q : A → List Item → Type 0} (x : Passage A) → ((a : A) (its : List Item) → P a its → Q a its)
      → Came P x → Came Q x
  unfolding Came
  came_so (came a its at n) f h = f a its h
  came_so (fell r its) f h = tt

  came_item : (P : A → List Item → Type 0) (it : Item) (x : Passage A) → Came (λ a its. P a (it ∷ its)) x
      → Came P (with_item it x)
  unfolding Came with_item
  came_item P it (came a its at n) h = h
  came_item P it (fell r its) h = tt

came_under : {A : Type 0} (P : A → List Item → Type 0) (its : List Item) (x : Passage A)
    → Came (λ a js. P a (its ++ js)) x → Came P (under its x)
unfolding Came under
came_under P its (came a js at n) h = h
came_under P its (fell r js) h = tt

came_onward : {A B : Type 0} (P : A → List Item → Type 0) (Q : B → List Item → Type 0) (x : Passage A) (g : A → ℕ → ℕ
    → Passage B) → Came P x
    → ((a : A) (its : List Item) (at n : ℕ) → P a its → Came (λ b js. Q b (its ++ js)) (g a at n)) → Came Q (onward x g)
unfolding Came onward
came_onward P Q (came a its at n) g h k = came_under Q its (g a at n) (k a its at n h)
came_onward P Q (fell r its) g h k = tt

module _ (s : List ℕ) {A : Type 0} where
  -- an item passed over, an item of fields, one element and another
  pub came_over : (P : A → List Item → Type 0) (c : Passing) (kind stream w : ℕ) (e : Element A) (at n : ℕ)
      → Came (λ a its. P a (item (passed c) kind stream at w ∷ its)) (walk s e (at + w) n)
      → Came P (walk s (over c kind stream w e) at n)
  unfolding Came
  came_over P c kind stream w e at n h =
      by_over s at n (Came P) c kind stream w e (λ l. came_item P _ (walk s e (at + w) n) h) (λ l. tt)

  pub came_part : {B : Type 0} (P : A → List Item → Type 0) (R : B → Type 0) (kind : ℕ) (m : Reading B) (f : B
      → Element A) (at n : ℕ)
      → Gave R (run s m at n) → ((b : B) (at' n' : ℕ) → R b
      → Came (λ a its. P a (part_item kind at at' ∷ its)) (walk s (f b) at' n'))
      → Came P (walk s (part B kind m f) at n)
  unfolding Came Gave
  came_part P R kind m f at n g h =
      by_part s at n (Came P) kind m f
      (λ b at' n' q. came_item P _ (walk s (f b) at' n') (h b at' n' (rw q at g))) (λ r q. tt)

  pub came_follow : {B : Type 0} (P : A → List Item → Type 0) (Q : B → List Item → Type 0) (e : Element A) (g : A
      → Element B) (at n : ℕ)
      → Came P (walk s e at n) → ((a : A) (its : List Item) (at' n' : ℕ) → P a its
      → Came (λ b js. Q b (its ++ js)) (walk s (g a) at' n'))
      → Came Q (walk s (follow e g) at n)
  came_follow P Q e g at n h k = rw (walk_follow s g e at n) (came_onward P Q (walk s e at n) _ h k)

  -- and so of what is accepted
  pub came_read : (P : A → List Item → Type 0) (e : Element A) (a : A) (its : List Item) (n : ℕ)
      → Came P (walk s e 0 0) → read s e ≡ accepted a its n → P a its
  unfolding Came
  came_read P e a its n h r = rw (came_end (8 * length s) (walk s e 0 0) a its n r) at h
