-- The theorem of each claim in specs/Claims.antt.
use mathlib.Core.Path.{◌≡◌, refl, sym, ◌∙◌, ap}
use Rattle.std.specs.Prelude.{Result, Ok, Err}
use mathlib.Core.Bool.{Bool, true, false, cond}
use mathlib.Core.List.{List}
use mathlib.Core.Logic.{◌⊎◌, inl, inr}
use Prim.Native.Nat.{ℕ, ◌+◌, ◌-◌, ◌≤◌, ◌<◌}
use native.Mathlib.Omega.{arith}
use borrow.Author.Tests.{ltb-true, ltb-false, le-leb}
use lib.Dec.{ltb}
use lib.ListN.{length, take, drop, length-append, length-drop}
use lib.Seq.{take-append_seam, drop_at}
use Rattle.sync.specs.declared.Hunted.{Hunted}
use Rattle.kernel.specs.declared.Refusal.{Refusal}
use Rattle.sync.specs.Sync.{size_at, frame_at, first_of, hunt_of, frame_of, out_after}
use Rattle.kernel.specs.Answer.{unread}
use Rattle.sync.specs.Claims.{StandsFirst, FoundIsFirst, FirstIsFound, RefusedIsNone, ElementIsInside}
use Rattle.sync.specs.Claims.{WrittenIsFound, RightIsFramed, RefusalsAreExact, BytesBehindStay}
use Rattle.sync.specs.Claims.{RefusalKeepsOutput, FramedOnce}
use Rattle.sync.proofs.Places.{hunt_is}
use Rattle.sync.proofs.First.{past_end, inside, Says, first_says, first_is}
use Rattle.sync.proofs.Frames.{with_room, framed_fits, refused_exactly}
use Rattle.sync.proofs.Written.{written_found}

-- what an answer says of the capture from the start on
abbrev Tells : List ℕ → ℕ → Result Hunted Refusal → Type 0
Tells s start (Ok h) = (length s ≤ 65536) × StandsFirst s start h.place × (h.size ≡ size_at s h.place)
Tells s start (Err x) = (x ≡ unread 20) × ((65536 < length s) ⊎ ((q : ℕ) → start ≤ q → frame_at s q ≡ false))

module _ (s : List ℕ) (start : ℕ) where
  -- no frame inside, so none anywhere
  anywhere : ((q : ℕ) → start ≤ q → q < length s → frame_at s q ≡ false) → (q : ℕ) (b : Bool) → ltb q (length s) ≡ b
      → start ≤ q → frame_at s q ≡ false
  anywhere none q true e lo = none q lo (ltb-true q (length s) e)
  anywhere none q false e lo = past_end s q (ltb-false q (length s) e)

  all_places : length s ≤ 65536 → (x : Result Hunted Refusal) → Says s start (length s - start) x → Tells s start x
  all_places m (Ok h) (w, l) = (m, w, l)
  all_places m (Err x) (e, none) =
      (e, inr (λ q lo. anywhere (λ r l h. none r l (omega arith)) q (ltb q (length s)) refl lo))

  tests : (b : Bool) → ltb 65536 (length s) ≡ b
      → Tells s start (cond b (Err (unread 20)) (first_of s start (length s - start)))
  tests true e = (refl, inl (ltb-true 65536 (length s) e))
  tests false e =
      all_places (ltb-false 65536 (length s) e) (first_of s start (length s - start))
      (first_says s (length s - start) start)

  hunt_tells : Tells s start (hunt_of s start)
  hunt_tells = tests (ltb 65536 (length s)) refl

-- what stands at the front of the output is the frame
written : (el out : List ℕ) (n : ℕ) → n ≡ 3 + length el → take n (out_after el out (Ok n)) ≡ frame_of el
written el out n e =
    let k : n ≡ length (frame_of el) = omega arith in
    rw k (take-append_seam (frame_of el) (drop (length (frame_of el)) out))

pub found_is_first : FoundIsFirst
found_is_first s start p n e = let t = rw e at (hunt_tells s start) in (t.1, t.2)

pub refused_is_none : RefusedIsNone
refused_is_none s start x e = rw e at (hunt_tells s start)

pub first_is_found : FirstIsFound
first_is_found s start p h w =
    let i = inside s p w.stands in
    hunt_is s start h ∙ first_is s (length s - start) start p (omega (arith, i, w.after)) w

pub element_is_inside : ElementIsInside
element_is_inside s start p n e =
    let t = rw e at (hunt_tells s start) in
    let i = inside s p t.1.stands in
    let h : p + 3 + n ≤ length s = omega (arith, i, t.2) in
    (t.1.after, omega (arith, i, t.2), h, t.0, rw (le-leb _ _ h))

pub written_is_found : WrittenIsFound
written_is_found before el out n out' more (e, laid) f =
    let h = rw (sym e) at (framed_fits el (length out)) in
    rw (laid, written el out n h.0) (written_found before el more h.1 h.2 f)

pub right_is_framed : RightIsFramed
right_is_framed = with_room

pub refusals_are_exact : RefusalsAreExact
refusals_are_exact = refused_exactly

pub bytes_behind_stay : BytesBehindStay
bytes_behind_stay el out n e =
    let f = rw e at (framed_fits el (length out)) in
    let l : length (frame_of el) ≡ n = omega arith in
    rw e (
      simp (length-append, length-drop) (omega (arith, l, f)),
      drop_at (frame_of el) (drop n out) n l,
    )

pub refusal_keeps_output : RefusalKeepsOutput
refusal_keeps_output el out x e = ap (out_after el out) e

pub framed_once : FramedOnce
framed_once el out out₁ out₂ x y p q = let e = p.0 ∙ sym q.0 in (e, p.1 ∙ ap (out_after el out) e ∙ sym q.1)
