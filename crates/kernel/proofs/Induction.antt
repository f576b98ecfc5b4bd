-- The one induction over the walks of elements: what holds of every walk, by what holds behind each of its steps.
use mathlib.Core.Path.{◌≡◌, refl}
use mathlib.Core.Bool.{Bool, true, false, cond}
use mathlib.Core.List.{List, []}
use Prim.Native.Nat.{ℕ, ◌+◌, ◌*◌, ◌≤◌, ◌<◌}
use lib.Dec.{ltb}
use lib.ListN.{length}
use borrow.Author.Tests.{ltb-true, ltb-false}
use Rattle.kernel.specs.Reading.{Reading, Stop, stop, Outcome, gave, refused, fits, short, fit, run}
use Rattle.kernel.specs.Element.{Passing, passed, item, part_item, Element, done, part, over, spot, Passage, came}
use Rattle.kernel.specs.Element.{fell, with_item, over_fit, next, walk}

-- a step: a part gives or refuses, and the bits to be passed over are there or not
module _ {A : Type 0} (s : List ℕ) (at n : ℕ) (P : Passage A → Type 0) where
  pub by_part : {B : Type 0} (kind : ℕ) (m : Reading B) (f : B → Element A)
      → ((b : B) (at' n' : ℕ) → run s m at n ≡ gave b at' n'
      → P (with_item (part_item kind at at') (walk s (f b) at' n')))
      → ((r : Stop) → run s m at n ≡ refused r → P (fell r [])) → P (walk s (part B kind m f) at n)
  unfolding walk next
  by_part {B} kind m f g h = go (run s m at n) refl
    where
      go : (o : Outcome B) → run s m at n ≡ o → P (next kind at o (λ b at' n'. walk s (f b) at' n'))
      go (gave b at' n') q = g b at' n' q
      go (refused r) q = h r q

  pub by_over : (c : Passing) (kind stream w : ℕ) (e : Element A)
      → (at + w ≤ 8 * length s → P (with_item (item (passed c) kind stream at w) (walk s e (at + w) n)))
      → (8 * length s < at + w → P (fell (stop 3 at 0 n) [])) → P (walk s (over c kind stream w e) at n)
  unfolding walk over_fit fit
  by_over c kind stream w e g h = go (ltb (8 * length s) (at + w)) refl
    where
      go : (t : Bool) → ltb (8 * length s) (at + w) ≡ t → P (over_fit (cond t (short 3) fits) at n
          (with_item (item (passed c) kind stream at w) (walk s e (at + w) n)))
      go true q = h (ltb-true _ _ q)
      go false q = g (ltb-false _ _ q)

-- P of an element, of the bit and the fields that it is walked from, and of what the walk comes to
module _ {A : Type 0} (s : List ℕ) (P : Element A → ℕ → ℕ → Passage A → Type 0) where
  pub record Steps : Type 1 where
    pub on_done : (a : A) (at n : ℕ) → P (done a) at n (came a [] at n)
    pub on_gave : {B : Type 0} (kind : ℕ) (m : Reading B) (f : B → Element A) (at n : ℕ) (b : B) (at' n' : ℕ)
        → run s m at n ≡ gave b at' n' → P (f b) at' n' (walk s (f b) at' n')
        → P (part B kind m f) at n (with_item (part_item kind at at') (walk s (f b) at' n'))
    pub on_refused : {B : Type 0} (kind : ℕ) (m : Reading B) (f : B → Element A) (at n : ℕ) (r : Stop)
        → run s m at n ≡ refused r → P (part B kind m f) at n (fell r [])
    pub on_over : (c : Passing) (kind stream w : ℕ) (e : Element A) (at n : ℕ) → at + w ≤ 8 * length s
        → P e (at + w) n (walk s e (at + w) n)
        → P (over c kind stream w e) at n (with_item (item (passed c) kind stream at w) (walk s e (at + w) n))
    pub on_short : (c : Passing) (kind stream w : ℕ) (e : Element A) (at n : ℕ) → 8 * length s < at + w
        → P (over c kind stream w e) at n (fell (stop 3 at 0 n) [])
    pub on_spot : (f : ℕ → Element A) (at n : ℕ) → P (f at) at n (walk s (f at) at n)
        → P (spot f) at n (walk s (f at) at n)

  pub walk_by : Steps → (e : Element A) (at n : ℕ) → P e at n (walk s e at n)
  unfolding walk
  walk_by h (done a) at n = h.on_done a at n
  walk_by h (part B kind m f) at n =
      by_part s at n (P (part B kind m f) at n) kind m f
      (λ b at' n' q. h.on_gave kind m f at n b at' n' q (walk_by h (f b) at' n')) (h.on_refused kind m f at n)
  walk_by h (over c kind stream w e) at n =
      by_over s at n (P (over c kind stream w e) at n) c kind stream w e
      (λ l. h.on_over c kind stream w e at n l (walk_by h e (at + w) n)) (h.on_short c kind stream w e at n)
  walk_by h (spot f) at n = h.on_spot f at n (walk_by h (f at) at n)
