-- Laws of the hunt: the tests of a mark and of a frame, a turn of its loop, and its end.
use mathlib.Core.Path.{◌≡◌, ◌∙◌, ap}
use Rattle.std.proofs.lemmas.List.{take_rest}
use Rattle.std.proofs.lemmas.Bool.Decides.{nat_tests}
use lib.Seq.{drop-drop}
use Rattle.std.specs.Prelude.{Err, slice_range}
use mathlib.Core.Bool.{true, false}
use mathlib.Core.List.{List}
use Prim.Native.Nat.{ℕ, suc, ◌+◌, ◌-◌, ◌≤◌, ◌<◌}
use native.Mathlib.Omega.{arith}
use lib.ListN.{length, drop}
use borrow.Author.Tests.{lt-ltb, le-ltb}
use Rattle.sync.specs.Sync.{size_at, frame_at, found, first_of, hunt_of}
use Rattle.kernel.specs.Answer.{unread}

-- the hunt where a frame stands at p, where none does, at the end, and over too long a capture
module _ (s : List ℕ) (p : ℕ) where
  first_here : p < length s → frame_at s p ≡ true → first_of s p (length s - p) ≡ found p (size_at s p)
  unfolding first_of
  first_here h e = let n : length s - p ≡ suc (length s - (p + 1)) = omega arith in rw (n, e)

  first_on : p < length s → frame_at s p ≡ false
      → first_of s p (length s - p) ≡ first_of s (p + 1) (length s - (p + 1))
  unfolding first_of
  first_on h e = let n : length s - p ≡ suc (length s - (p + 1)) = omega arith in rw (n, e)

  first_none : length s ≤ p → first_of s p (length s - p) ≡ Err (unread 20)
  unfolding first_of
  first_none h = let n : length s - p ≡ 0 = omega arith in rw n

  pub hunt_is : length s ≤ 65536 → hunt_of s p ≡ first_of s p (length s - p)
  hunt_is h = rw (le-ltb 65536 (length s) h)

  pub hunt_here : length s ≤ 65536 → p < length s → frame_at s p ≡ true → hunt_of s p ≡ found p (size_at s p)
  hunt_here h l e = hunt_is h ∙ first_here l e

  pub hunt_on : p < length s → frame_at s p ≡ false → hunt_of s p ≡ hunt_of s (p + 1)
  hunt_on h e = rw (first_on h e)

  pub hunt_none : length s ≤ p → hunt_of s p ≡ Err (unread 20)
  hunt_none h = let e = first_none h in grind (arith, nat_tests)

  pub hunt_over : 65536 < length s → hunt_of s p ≡ Err (unread 20)
  hunt_over h = rw (lt-ltb 65536 (length s) h)

pub ruleset hunting = (hunt_here, hunt_on, hunt_none, hunt_over)

-- what is left of a capture behind a place, and then behind three bytes more
pub behind_mark : (s rest behind : List ℕ) (p : ℕ) → rest ≡ slice_range s p (length s)
    → behind ≡ slice_range rest 3 (length rest) → behind ≡ drop (p + 3) s
behind_mark s rest behind p e f =
    let r : rest ≡ drop p s = e ∙ take_rest s p in
    f ∙ take_rest rest 3 ∙ ap (drop 3) r ∙ drop-drop 3 p s
