-- Laws of the frames of a capture: each takes four bytes or more, so none is left behind as many as the capture has
-- bytes.
use mathlib.Core.Path.{◌≡◌, refl, ap, sym, ◌∙◌, subst}
use mathlib.Core.Bool.{Bool, true, false, cond}
use mathlib.Core.List.{List, [], ◌∷◌, ◌++◌}
use Rattle.std.proofs.Common.{Result, Ok, Err}
use Prim.Native.Nat.{ℕ, zero, suc, ◌+◌, ◌-◌, ◌%◌, ◌≤◌, ◌<◌}
use native.Mathlib.Nat.{zero-add, suc-add}
use native.Mathlib.Omega.{arith}
use lib.Dec.{ltb}
use lib.ListN.{length}
use Rattle.kernel.specs.Answer.{unread}
use Rattle.sync.specs.declared.Hunted.{Hunted}
use Rattle.kernel.specs.declared.Refusal.{Refusal}
use Rattle.sync.specs.Sync.{first_of, hunt_of}
use Rattle.sync.proofs.Theorems.{element_is_inside}
use Rattle.capture.specs.Frames.{Point, Seen, Next, frame, none, behind, then_frames, seen_at, next_by, next_of}
use Rattle.capture.specs.Frames.{frames_from, frames_of, behind_all, OfEach}
use Rattle.capture.specs.Claims.{Numbered}

either_way : {A : Type 0} (t : Bool) (x : A) → cond t x x ≡ x
either_way true x = refl
either_way false x = refl

-- what frames behind the next one share, the frames share
same_then : (x : Next) (f g : Point → List Seen) → ((m : Seen) → x ≡ frame m → f (behind m) ≡ g (behind m))
    → then_frames x f ≡ then_frames x g
same_then (frame m) f g h = ap (λ (ms : List Seen). m ∷ ms) (h m refl)
same_then none f g h = refl

-- of the next frame, if there is one
abbrev pub OfNext : (Seen → Type 0) → Next → Type 0
OfNext P (frame m) = P m
OfNext P none = Unit {0}

-- the number of the place come to, and what is held there before it
abbrev pub From : Point → Seen → Type 0
From c m = (m.number ≡ c.number) × (m.before ≡ c.held)

module _ (s : List ℕ) (room : ℕ) where
  -- a frame lies inside the capture, at or behind a place
  abbrev pub InsideFrom : ℕ → Seen → Type 0
  InsideFrom at m = (at ≤ m.place) × (1 ≤ m.size) × (m.place + 3 + m.size ≤ length s) × (length s ≤ 65536)

  found_inside : (c : Point) (h : Result Hunted Refusal) → hunt_of s c.at ≡ h → OfNext (InsideFrom c.at) (next_by s room c h)
  found_inside c (Ok h) e = let i = element_is_inside s c.at h.place h.size e in (i.0, i.1, i.2, i.3)
  found_inside c (Err x) e = tt

  pub next_inside : (c : Point) (m : Seen) → next_of s room c ≡ frame m → InsideFrom c.at m
  next_inside c m e = subst (OfNext (InsideFrom c.at)) e (found_inside c (hunt_of s c.at) refl)

  -- behind the last byte no frame stands
  none_behind : (c : Point) → length s ≤ c.at → next_of s room c ≡ none
  unfolding first_of
  none_behind c h =
      let e : length s - c.at ≡ 0 = omega arith in
      let g : hunt_of s c.at ≡ Err (unread 20) = rw e (either_way (ltb 65536 (length s)) (Err (unread 20))) in
      ap (next_by s room c) g

  no_more : (k : ℕ) (c : Point) → next_of s room c ≡ none → frames_from s room k c ≡ []
  unfolding frames_from
  no_more zero c e = refl
  no_more (suc k) c e = ap (λ (x : Next). then_frames x (frames_from s room k)) e

  pub all_frames : (more k : ℕ) (c : Point) → length s ≤ c.at + k
      → frames_from s room (k + more) c ≡ frames_from s room k c
  unfolding frames_from
  all_frames more zero c h = rw zero-add (no_more more c (none_behind c (omega arith)))
  all_frames more (suc k) c h =
      rw suc-add
      (same_then (next_of s room c) _ _ (λ m e. all_frames more k (behind m) (omega (arith, next_inside c m e))))

  pub no_frames : (c : Point) → next_of s room c ≡ none → frames_of s room c ≡ []
  no_frames c e = no_more (length s) c e

  pub frames_on : (c : Point) (m : Seen) → next_of s room c ≡ frame m
      → frames_of s room c ≡ m ∷ frames_of s room (behind m)
  unfolding frames_from
  frames_on c m e =
      let n : length s + 1 ≡ suc (length s) = omega arith in
      sym (all_frames 1 (length s) c (omega arith))
      ∙ rw n (ap (λ (x : Next). then_frames x (frames_from s room (length s))) e)

  module _ (j k : ℕ) where
    TwoGoes : Point → List Seen → List Seen → Type 0
    TwoGoes c all first = all ≡ first ++ frames_from s room k (behind_all c first)

    next_goes : (c : Point) (x : Next) → next_of s room c ≡ x
        → ((d : Point) → TwoGoes d (frames_from s room (j + k) d) (frames_from s room j d))
        → TwoGoes c (then_frames x (frames_from s room (j + k))) (then_frames x (frames_from s room j))
    unfolding TwoGoes behind_all
    next_goes c (frame m) e ih = ap (λ (ms : List Seen). m ∷ ms) (ih (behind m))
    next_goes c none e ih = sym (no_more k c e)

  two_goes : (j k : ℕ) (c : Point)
      → frames_from s room (j + k) c ≡ frames_from s room j c ++ frames_from s room k (behind_all c (frames_from s room j c))
  unfolding frames_from TwoGoes behind_all
  two_goes zero k c = rw zero-add
  two_goes (suc j) k c = rw suc-add (next_goes j k c (next_of s room c) refl (two_goes j k))

  pub sittings : (k : ℕ) (c : Point)
      → frames_of s room c ≡ frames_from s room k c ++ frames_of s room (behind_all c (frames_from s room k c))
  sittings k c =
      let e : length s + k ≡ k + length s = omega arith in
      sym (all_frames k (length s) c (omega arith)) ∙ ap (λ (n : ℕ). frames_from s room n c) e ∙ two_goes k (length s) c

  -- the induction over frames: what holds of none of them, and with the next one in front, holds of any number
  module _ (P : Point → List Seen → Type 0) (of_none : (c : Point) → P c [])
      (of-next : (c : Point) (m : Seen) (ms : List Seen) → next_of s room c ≡ frame m → P (behind m) ms
      → P c (m ∷ ms)) where
    next_by_law : (k : ℕ) (c : Point) (x : Next) → next_of s room c ≡ x → ((d : Point) → P d (frames_from s room k d))
        → P c (then_frames x (frames_from s room k))
    next_by_law k c (frame m) e ih = of-next c m _ e (ih (behind m))
    next_by_law k c none e ih = of_none c

    pub frames_by : (k : ℕ) (c : Point) → P c (frames_from s room k c)
    unfolding frames_from
    frames_by zero c = of_none c
    frames_by (suc k) c = next_by_law k c (next_of s room c) refl (frames_by k)

  -- behind some frames a capture is come further, and not beyond its end
  abbrev pub Further : Point → List Seen → Type 0
  Further c ms = 1 ≤ length ms → (c.at < (behind_all c ms).at) × ((behind_all c ms).at ≤ length s)

  further_from : (c d : Point) (ms : List Seen) → c.at < d.at → d.at ≤ length s → Further d ms
      → (c.at < (behind_all d ms).at) × ((behind_all d ms).at ≤ length s)
  unfolding behind_all
  further_from c d [] lo hi f = (lo, hi)
  further_from c d (m ∷ ms) lo hi f = let g = f (omega arith) in (omega (arith, g.0), g.1)

  pub further : (k : ℕ) (c : Point) → Further c (frames_from s room k c)
  unfolding behind_all
  further =
      frames_by Further (λ c h. absurd (omega arith)) (λ c m ms e f h.
      let i = next_inside c m e in
      further_from c (behind m) ms (omega (arith, i)) i.2 f)

  few_next : (k : ℕ) (x : Next) → ((d : Point) → length (frames_from s room k d) ≤ k)
      → length (then_frames x (frames_from s room k)) ≤ suc k
  few_next k (frame m) ih = omega (arith, ih (behind m))
  few_next k none ih = omega arith

  pub few_frames : (k : ℕ) (c : Point) → length (frames_from s room k c) ≤ k
  unfolding frames_from
  few_frames zero c = omega arith
  few_frames (suc k) c = few_next k (next_of s room c) (few_frames k)

  -- what holds of every frame that may be seen holds of each frame of a capture
  module _ (P : Seen → Type 0) (f : (c : Point) (p n : ℕ) → c.number ≤ 65536 → P (seen_at s room c p n)) where
    seen_next : (c : Point) → c.number ≤ 65536 → (h : Result Hunted Refusal) → OfNext P (next_by s room c h)
    seen_next c few (Ok h) = f c h.place h.size few
    seen_next c few (Err x) = tt

    pub each_frame : (k : ℕ) (c : Point) → c.number ≤ 65536 → OfEach P (frames_from s room k c)
    each_frame =
        frames_by (λ c ms. c.number ≤ 65536 → OfEach P ms) (λ c few. tt)
        (λ c m ms e ih few. (subst (OfNext P) e (seen_next c few (hunt_of s c.at)), ih (omega arith)))

  of_place : (c : Point) (h : Result Hunted Refusal) → OfNext (From c) (next_by s room c h)
  of_place c (Ok h) = (refl, refl)
  of_place c (Err x) = tt

  pub next_from : (c : Point) → OfNext (From c) (next_of s room c)
  next_from c = of_place c (hunt_of s c.at)

  -- an element has no more in front of it than bytes
  pub numbered : (k : ℕ) (c : Point) → c.number ≤ c.at → Numbered c.number (frames_from s room k c)
  numbered =
      frames_by (λ c ms. c.number ≤ c.at → Numbered c.number ms) (λ c few. tt) (λ c m ms e ih few.
      let i = next_inside c m e in
      let w : m.number ≡ c.number = (subst (OfNext (From c)) e (next_from c)).0 in
      let r : m.number % 65536 + 1 ≡ c.number + 1 = omega (arith, i.0, i.1, i.2, i.3, w) in
      (w, subst (λ (z : ℕ). Numbered z ms) r (ih (omega (arith, i.0, w)))))
