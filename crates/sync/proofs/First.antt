-- The hunt's answer is the first frame, and none only where none stands.
use mathlib.Core.Path.{◌≡◌, refl, sym}
use Rattle.std.specs.Prelude.{Result, Ok, Err}
use mathlib.Core.Bool.{Bool, true, false, cond, ◌&&◌}
use mathlib.Core.List.{List}
use Prim.Native.Nat.{ℕ, zero, suc, ◌+◌, ◌≤◌, ◌<◌}
use native.Mathlib.Omega.{arith}
use borrow.Author.Tests.{eqb-true, eqb-false, leb-true, lt-leb}
use lib.Dec.{eqb, leb}
use lib.ListN.{length}
use Rattle.kernel.proofs.Tests.{both}
use Rattle.sync.specs.declared.Hunted.{Hunted}
use Rattle.kernel.specs.declared.Refusal.{Refusal}
use Rattle.sync.specs.Sync.{marked, size_at, end_at, frame_at, found, first_of}
use Rattle.kernel.specs.Answer.{unread}
use Rattle.sync.specs.Claims.{StandsFirst}

-- a place at or after p is p, or after it
from_next : {P : Type 0} (p q : ℕ) → p ≤ q → (p ≡ q → P) → (p + 1 ≤ q → P) → P
from_next {P} p q h here there = go (eqb p q) refl
  where
    go : (b : Bool) → eqb p q ≡ b → P
    go true e = here (eqb-true p q e)
    go false e = let n : p ≡ q → ⊥ = eqb-false p q e in there (omega (arith, n))

-- of the four tests of a frame, the second and the third
tests_hold : (m : Bool) (n e l : ℕ) (x : Bool) → (m && (leb 1 n && (leb e l && x))) ≡ true → (1 ≤ n) × (e ≤ l)
tests_hold m n e l x h =
    let p = both (leb 1 n) (leb e l && x) (both m _ h).1 in
    (leb-true 1 n p.0, leb-true e l (both (leb e l) x p.1).0)

module _ (s : List ℕ) where
  -- no frame stands at the end or behind it
  pub past_end : (q : ℕ) → length s ≤ q → frame_at s q ≡ false
  past_end q h = rw (lt-leb (q + 2) (length s) (omega arith))

  -- a frame that stands lies inside
  pub inside : (p : ℕ) → frame_at s p ≡ true → (1 ≤ size_at s p) × (end_at s p ≤ length s)
  inside p e = tests_hold (marked s p) (size_at s p) (end_at s p) (length s) _ e

  -- what an answer says of k places from p on
  abbrev pub Says : ℕ → ℕ → Result Hunted Refusal → Type 0
  Says p k (Ok h) = StandsFirst s p h.place × (h.size ≡ size_at s h.place)
  Says p k (Err x) = (x ≡ unread 20) × ((q : ℕ) → p ≤ q → q < p + k → frame_at s q ≡ false)

  one_more : (p k : ℕ) (x : Result Hunted Refusal) → frame_at s p ≡ false → Says (p + 1) k x → Says p (suc k) x
  one_more p k (Ok h) e (w, l) = (
    record {
      after = omega (arith, w.after);
      stands = w.stands;
      first = λ r lo hi.
          from_next p r lo (λ i. rw (sym i) e) (λ m. w.first r m hi);
    },
    l,
  )
  one_more p k (Err x) e (w, l) = (w, λ r lo hi. from_next p r lo (λ i. rw (sym i) e) (λ m. l r m (omega arith)))

  turn : (p k : ℕ) (b : Bool) → frame_at s p ≡ b → Says (p + 1) k (first_of s (p + 1) k)
      → Says p (suc k) (cond b (found p (size_at s p)) (first_of s (p + 1) k))
  turn p k true e h = (record { after = omega arith; stands = e; first = λ r lo hi. absurd (omega arith) }, refl)
  turn p k false e h = one_more p k (first_of s (p + 1) k) e h

  pub first_says : (k p : ℕ) → Says p k (first_of s p k)
  unfolding first_of
  first_says zero p = (refl, λ q lo hi. absurd (omega arith))
  first_says (suc k) p = turn p k (frame_at s p) refl (first_says k (p + 1))

  pub first_is : (k p q : ℕ) → q < p + k → StandsFirst s p q → first_of s p k ≡ found q (size_at s q)
  unfolding first_of
  first_is zero p q h w = absurd (omega (arith, w.after))
  first_is (suc k) p q h w =
      from_next p q w.after
      (λ e. let t : frame_at s p ≡ true = rw e w.stands in rw (t, e))
      (λ m. rw (w.first p (omega arith) (omega arith)) (first_is k (p + 1) q (omega arith)
      (record { after = m; stands = w.stands; first = λ r lo hi. w.first r (omega arith) hi })))
