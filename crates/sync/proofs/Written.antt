-- What is written is found.
use mathlib.Core.Path.{◌≡◌, sym, ◌∙◌, ap}
use mathlib.Core.Bool.{true, ◌||◌}
use mathlib.Core.List.{List, [], ◌∷◌, ◌++◌, append_assoc}
use mathlib.Core.Logic.{◌⊎◌, inl, inr}
use Prim.Native.Nat.{ℕ, ◌+◌, ◌/◌, ◌%◌, ◌≤◌}
use native.Mathlib.Omega.{arith}
use borrow.Author.Tests.{le-leb, eq-eqb}
use lib.Dec.{eqb}
use lib.ListN.{length, drop, length-append}
use lib.Seq.{take-append_seam, drop_at, get_or-append_seam, get_or-append-add}
use Rattle.kernel.proofs.Tests.{or_right}
use Rattle.sync.specs.Sync.{marked, size_at, frame_at, frame_of, found}
use Rattle.sync.specs.Claims.{Frame, FoundAt}
use Rattle.sync.proofs.Places.{hunt_here}

-- the mark of a frame that stands behind other bytes
mark_behind : (next : List ℕ) → length next ≤ 8191 → (more front : List ℕ)
    → marked (front ++ (frame_of next ++ more)) (length front) ≡ true
mark_behind next most more front =
    let s = frame_of next ++ more in
    let l : length front + 2 ≤ length (front ++ s) = simp (length-append, length-append) (omega arith) in
    let t : (224 + length next / 256) / 32 ≡ 7 = omega arith in
    rw (le-leb _ _ l, get_or-append_seam, get_or-append-add front s 1 0, t)

-- a frame behind other bytes, with something behind it
module _ (before el more : List ℕ) (some : 1 ≤ length el) (few : length el ≤ 8191) where
  abbrev s : List ℕ
  s = before ++ (frame_of el ++ more)

  abbrev p : ℕ
  p = length before

  length_is : length s ≡ p + 3 + length el + length more
  length_is = simp (length-append, length-append) (omega arith)

  size_is : size_at s p ≡ length el
  size_is =
      rw (get_or-append-add before (frame_of el ++ more) 1 0, get_or-append-add before (frame_of el ++ more) 2 0)
      (omega arith)

  -- it ends with the capture, or before a mark
  ends : (more ≡ []) ⊎ Frame more → (eqb (p + 3 + length el) (length s) || marked s (p + 3 + length el)) ≡ true
  ends (inl e) =
      let n : length more ≡ 0 = ap length e in
      let h : p + 3 + length el ≡ length s = omega (arith, length_is, n) in
      rw (eq-eqb _ _ h)
  ends (inr f) =
      let n : length (before ++ frame_of el) ≡ p + 3 + length el = simp length-append (omega arith) in
      let m = mark_behind f.element f.few f.rest (before ++ frame_of el) in
      or_right (eqb (p + 3 + length el) (length s)) _ (rw (sym f.stands, n, append_assoc) at m)

  stands : (more ≡ []) ⊎ Frame more → frame_at s p ≡ true
  stands f =
      let h : p + 3 + length el ≤ length s = omega (arith, length_is) in
      rw (mark_behind el few more before, size_is, le-leb 1 (length el) some, le-leb (p + 3 + length el) _ h) (ends f)

  behind : drop (p + 3) s ≡ el ++ more
  behind =
      let mark : List ℕ = 0x56 ∷ (224 + length el / 256) ∷ (length el % 256) ∷ [] in
      let n : length (before ++ mark) ≡ p + 3 = simp length-append (omega arith) in
      rw (append_assoc before mark (el ++ more)) at (drop_at (before ++ mark) (el ++ more) (p + 3) n)

  pub written_found : (more ≡ []) ⊎ Frame more → length s ≤ 65536 → FoundAt s p el
  written_found f h = (
    hunt_here s p h (omega (arith, length_is)) (stands f) ∙ ap (found p) size_is,
    rw (le-leb (p + 3 + length el) (length s) (omega (arith, length_is)), behind) (take-append_seam el more),
  )
