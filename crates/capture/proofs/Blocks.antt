-- Laws of the text of frames and of the blocks that it is laid in.
use mathlib.Core.Path.{◌≡◌, refl, ap, sym, ◌∙◌, subst}
use mathlib.Core.Bool.{Bool, true, false, cond}
use mathlib.Core.List.{List, [], ◌∷◌, ◌++◌, append_assoc, append-nil}
use Prim.Native.Nat.{ℕ, zero, suc, ◌+◌, ◌≤◌, ◌<◌}
use native.Mathlib.Nat.{zero-add}
use native.Mathlib.Omega.{arith}
use lib.Dec.{leb}
use lib.ListN.{length, length-append, length-drop}
use borrow.Author.Tests.{le-leb, lt-leb, leb-true, leb-false}
use Rattle.capture.specs.Frames.{Point, Seen, Next, frame, none, behind, then_frames, next_of, frames_from, frames_of}
use Rattle.capture.specs.Frames.{behind_all, Took}
use Rattle.capture.specs.declared.Step.{Step}
use Rattle.kernel.specs.Element.{Answer, accepted, rejected}
use Rattle.element.specs.Mux.{Applied}
use Rattle.element.specs.Reply.{verdict_of, map_after}
use Rattle.element.proofs.Numbers.{length_numbers}
use Rattle.capture.specs.Blocks.{Report, text_of, after_all, fitting, block_frames, block_text, block_end, block_state}
use Rattle.capture.specs.Blocks.{is_last, blocks, block_room, Within}
use Rattle.capture.specs.Promises.{IsBlock}
use Rattle.kernel.specs.Lists.{Stored}
use Rattle.kernel.proofs.Lists.{ToStore, store_all, store_on, stored_none}
use Rattle.capture.proofs.Frames.{no_frames, frames_on, sittings, few_frames, frames_by, further}

none_if_short : (ms : List Seen) → length ms ≤ 0 → ms ≡ []
none_if_short [] h = refl
none_if_short (m ∷ ms) h = absurd (omega arith)

behind_append : (c : Point) (ms ns : List Seen) → behind_all c (ms ++ ns) ≡ behind_all (behind_all c ms) ns
unfolding behind_all
behind_append c [] ns = refl
behind_append c (m ∷ ms) ns = behind_append (behind m) ms ns

module _ {S : Type 0} (w : Report S) where
  text_append : (x : S) (ms ns : List Seen)
      → text_of w x (ms ++ ns) ≡ text_of w x ms ++ text_of w (after_all w x ms) ns
  unfolding text_of after_all
  text_append x [] ns = refl
  text_append x (m ∷ ms) ns = rw (text_append (w.after x m) ms ns) (sym (append_assoc (w.text x m) _ _))

  no_text : (x : S) (ms : List Seen) → length ms ≤ 0 → text_of w x ms ≡ []
  unfolding text_of
  no_text x [] h = refl
  no_text x (m ∷ ms) h = absurd (omega arith)

  some_frame : (x : S) (ms : List Seen) → 1 ≤ length (text_of w x ms) → 1 ≤ length ms
  unfolding text_of
  some_frame x [] h = absurd (omega arith)
  some_frame x (m ∷ ms) h = omega arith

  module _ (size : ℕ) where
    -- a frame is laid where there is room for the longest text,
    fits : (x : S) (used : ℕ) (m : Seen) (ms : List Seen) → leb (used + w.most) size ≡ true
        → fitting w size x used (m ∷ ms) ≡ m ∷ fitting w size (w.after x m) (used + length (w.text x m)) ms
    unfolding fitting
    fits x used m ms e = rw e

    -- and none where there is not
    full : (x : S) (used : ℕ) (ms : List Seen) → leb (used + w.most) size ≡ false → fitting w size x used ms ≡ []
    unfolding fitting
    full x used [] e = refl
    full x used (m ∷ ms) e = rw e

    fits_none : (x : S) (used : ℕ) → fitting w size x used [] ≡ []
    unfolding fitting
    fits_none x used = refl

    -- where a block has room for the longest text it takes a frame of those that are left
    fewer : (x : S) (ms : List Seen) (n k : ℕ) → w.most ≤ size
        → length ms ≡ length (fitting w size x 0 ms) + n → length ms ≤ suc k → n ≤ k
    unfolding fitting
    fewer x [] n k h e l = omega arith
    fewer x (m ∷ ms) n k h e l =
        let t : leb (0 + w.most) size ≡ true = rw zero-add (le-leb w.most size h) in
        omega (arith, rw t at e)

    -- a block that ends with room for one text more has all of them
    has_next : (x : S) (used : ℕ) (m : Seen) (ms rest : List Seen) (t : Bool) → leb (used + w.most) size ≡ t
        → (used + length (w.text x m) + length (text_of w (w.after x m) rest) + w.most ≤ size → rest ≡ ms)
        → used + length (text_of w x (cond t (m ∷ rest) [])) + w.most ≤ size → cond t (m ∷ rest) [] ≡ m ∷ ms
    unfolding text_of
    has_next x used m ms rest true e ih h =
        let l = length-append (w.text x m) (text_of w (w.after x m) rest) in
        ap (λ (z : List Seen). m ∷ z) (ih (omega (arith, l)))
    has_next x used m ms rest false e ih h = absurd (omega (arith, leb-false (used + w.most) size e))

    has_all : (x : S) (used : ℕ) (ms : List Seen)
        → used + length (text_of w x (fitting w size x used ms)) + w.most ≤ size → fitting w size x used ms ≡ ms
    unfolding fitting
    has_all x used [] h = refl
    has_all x used (m ∷ ms) h =
        has_next x used m ms _ (leb (used + w.most) size) refl
        (has_all (w.after x m) (used + length (w.text x m)) ms) h

    module _ (s : List ℕ) (room : ℕ) where
      -- the frames of a block are the first of those that are left
      first_next : (c : Point) (m : Seen) → next_of s room c ≡ frame m → (t : Bool) (ms : List Seen)
          → ms ≡ frames_from s room (length ms) (behind m)
          → cond t (m ∷ ms) [] ≡ frames_from s room (length (cond t (m ∷ ms) [])) c
      unfolding frames_from
      first_next c m e true ms h = ap (λ (l : List Seen). m ∷ l) h
          ∙ sym (ap (λ (x : Next). then_frames x (frames_from s room (length ms))) e)
      first_next c m e false ms h = refl

      IsFirst : Point → List Seen → Type 0
      IsFirst c ms = ms ≡ frames_from s room (length ms) c

      firsts : (k : ℕ) (c : Point) (x : S) (used : ℕ) → IsFirst c (fitting w size x used (frames_from s room k c))
      unfolding fitting frames_from IsFirst
      firsts =
          frames_by s room (λ c ms. (x : S) (used : ℕ) → IsFirst c (fitting w size x used ms))
          (λ c x used. refl) (λ c m ms e ih x used.
          first_next c m e (leb (used + w.most) size) _ (ih (w.after x m) (used + length (w.text x m))))

      module _ (x : S) (c : Point) where
        -- a block, and what is left behind it
        block_then : frames_of s room c ≡ block_frames w size s room x c ++ frames_of s room (block_end w size s room x c)
        unfolding IsFirst
        block_then =
            subst (λ (ms : List Seen). frames_of s room c ≡ ms ++ frames_of s room (behind_all c ms))
            (sym (firsts (length s) c x 0)) (sittings s room (length (block_frames w size s room x c)) c)

        -- it leads to where all frames lead
        pub end_ahead : let d = block_end w size s room x c in
            behind_all d (frames_of s room d) ≡ behind_all c (frames_of s room c)
        end_ahead = sym (ap (behind_all c) block_then ∙ behind_append c (block_frames w size s room x c) _)

        -- behind a block that is not the last the capture is come further
        pub further_on : w.most ≤ size → is_last w size s room x c ≡ false
            → (c.at < (block_end w size s room x c).at) × ((block_end w size s room x c).at ≤ length s)
        unfolding IsFirst
        further_on h e =
            let b = block_frames w size s room x c in
            let n = some_frame x b (omega (arith, leb-false (length (block_text w size s room x c) + w.most) size e)) in
            subst (λ (ms : List Seen). 1 ≤ length ms → (c.at < (behind_all c ms).at) × ((behind_all c ms).at ≤ length s))
            (sym (firsts (length s) c x 0)) (further s room (length b) c) n

        last_has_all : is_last w size s room x c ≡ true → block_frames w size s room x c ≡ frames_of s room c
        last_has_all e = has_all x 0 (frames_of s room c) (rw zero-add (leb-true _ size e))

        pub last_end : is_last w size s room x c ≡ true
            → block_end w size s room x c ≡ behind_all c (frames_of s room c)
        last_end e = ap (behind_all c) (last_has_all e)

        pub none_behind_last : is_last w size s room x c ≡ true → frames_of s room (block_end w size s room x c) ≡ []
        none_behind_last e =
            let all = ap length (last_has_all e ∙ block_then) ∙ length-append (block_frames w size s room x c) _ in
            none_if_short _ (omega (arith, all))

        laid_next : (k : ℕ) → let y = block_state w size s room x c in let d = block_end w size s room x c in
            (t : Bool) → is_last w size s room x c ≡ t → blocks w size s room k y d ≡ text_of w y (frames_of s room d)
            → block_text w size s room x c ++ cond t [] (blocks w size s room k y d) ≡ text_of w x (frames_of s room c)
        laid_next k true e ih = append-nil _ ∙ ap (text_of w x) (last_has_all e)
        laid_next k false e ih =
            rw ih (sym (ap (text_of w x) block_then ∙ text_append x (block_frames w size s room x c) _))

      all_laid : (k : ℕ) (x : S) (c : Point) → w.most ≤ size → length (frames_of s room c) ≤ k
          → blocks w size s room k x c ≡ text_of w x (frames_of s room c)
      unfolding blocks
      all_laid zero x c h l = sym (no_text x (frames_of s room c) l)
      all_laid (suc k) x c h l =
          let d = block_end w size s room x c in
          let n = fewer x (frames_of s room c) (length (frames_of s room d)) k h
          (ap length (block_then x c) ∙ length-append (block_frames w size s room x c) _) l in
          laid_next x c k (is_last w size s room x c) refl (all_laid k (block_state w size s room x c) d h n)

      pub whole : (x : S) (c : Point) → w.most ≤ size
          → blocks w size s room (length s) x c ≡ text_of w x (frames_of s room c)
      whole x c h = all_laid (length s) x c h (few_frames s room (length s) c)

      -- what is left of a block, behind so many bytes of it
      abbrev left : S → ℕ → Point → List Seen
      left x used c = fitting w size x used (frames_of s room c)

      -- a loop that lays the block of x₀ and c₀ over out₀ has come to x and c: what is left, laid from `used` on, makes
      -- it whole
      pub record Left (out₀ : List ℕ) (x₀ : S) (c₀ : Point) (out : List ℕ) (used : ℕ) (x : S) (c : Point) : Type 0 where
        pub lay : ToStore out₀ 0 (block_text w size s room x₀ c₀) out used (text_of w x (left x used c))
        pub reach : behind_all c (left x used c) ≡ block_end w size s room x₀ c₀
        pub state : after_all w x (left x used c) ≡ block_state w size s room x₀ c₀

      -- all of it is laid
      pub record Laid (out₀ : List ℕ) (x₀ : S) (c₀ : Point) (out : List ℕ) (used : ℕ) (x : S) (c : Point)
          (ended : Bool) : Type 0 where
        pub stored : Stored out₀ 0 (block_text w size s room x₀ c₀) out used
        pub bytes : used ≡ length (block_text w size s room x₀ c₀)
        pub reach : c ≡ block_end w size s room x₀ c₀
        pub state : x ≡ block_state w size s room x₀ c₀
        pub last : ended ≡ is_last w size s room x₀ c₀

      module _ {out₀ : List ℕ} {x₀ : S} {c₀ : Point} where
        pub left_all : Left out₀ x₀ c₀ out₀ 0 x₀ c₀
        left_all = record { lay = store_all; reach = refl; state = refl }

        module _ {out : List ℕ} {used : ℕ} {x : S} {c : Point} (l : Left out₀ x₀ c₀ out used x c) where
          -- a frame was laid,
          pub left_on : {out' : List ℕ} {used' : ℕ} (m : Seen) → next_of s room c ≡ frame m → used + w.most ≤ size
              → Stored out used (w.text x m) out' used' → Left out₀ x₀ c₀ out' used' (w.after x m) (behind m)
          unfolding text_of after_all behind_all
          left_on m e h p =
              let f = ap (fitting w size x used) (frames_on s room c m e)
              ∙ fits x used m _ (le-leb (used + w.most) size h)
              ∙ ap (λ (z : ℕ). m ∷ left (w.after x m) z (behind m)) (sym p.next) in
              record { lay = store_on (rw f at l.lay) p; reach = rw f at l.reach; state = rw f at l.state }

          laid_by : left x used c ≡ [] → (t : Bool) → leb (used + w.most) size ≡ t
              → Laid out₀ x₀ c₀ out used x c t
          unfolding text_of after_all behind_all
          laid_by e t h =
              let p = (rw e at l.lay).then stored_none in
              let n = p.next ∙ zero-add _ in
              record {
                stored = p;
                bytes = n;
                reach = rw e at l.reach;
                state = rw e at l.state;
                last = sym h ∙ ap (λ (k : ℕ). leb (k + w.most) size) n;
              }

          -- no frame is left,
          pub left_none : next_of s room c ≡ none → used + w.most ≤ size → Laid out₀ x₀ c₀ out used x c true
          left_none e h =
              laid_by (ap (fitting w size x used) (no_frames s room c e) ∙ fits_none x used) true (le-leb _ _ h)

          -- or no room
          pub left_full : size < used + w.most → Laid out₀ x₀ c₀ out used x c false
          left_full h =
              let f = lt-leb (used + w.most) size h in
              laid_by (full x used (frames_of s room c) f) false f

-- what a loop that lays a block was lent is as long as it was, and its bytes have room
pub record Rooms (room size : ℕ) (out₀ map out : List ℕ) (used : ℕ) : Type 0 where
  pub map_room : length map ≡ room
  pub long : length out ≡ length out₀
  pub few : used ≤ size

-- ---- a loop that lays a block

module _ {R S : Type 0} (w : Report S) (IsOf : R → Point → S → Type 0) (s out₀ : List ℕ) where
  -- begun at a point and a state, it has come to others,
  pub record Reached (c₀ : Point) (x₀ : S) (out : List ℕ) (used : ℕ) (reached : R) : Type 0 where
    pub point : Point
    pub state : S
    pub is : IsOf reached point state
    pub left : Left w (block_room (length out₀)) s 4368 out₀ x₀ c₀ out used state point

  -- whatever they were that its value was of
  pub record Going (from : R) (map out : List ℕ) (used : ℕ) (reached : R) : Type 0 where
    pub rooms : Rooms 4368 (block_room (length out₀)) out₀ map out used
    pub begun : (c : Point) (x : S) → IsOf from c x → Reached c x out used reached

  -- what was laid is a block
  pub block_laid : {out : List ℕ} {used : ℕ} {c₀ c : Point} {x₀ x : S} {reached : R} {t : Bool} → IsOf reached c x
      → Laid w (block_room (length out₀)) s 4368 out₀ x₀ c₀ out used x c t
      → IsBlock w IsOf s c₀ x₀ out₀ (record { reached = reached; bytes = used; ended = t }) out
  block_laid i l = record {
    reached = rw (← l.reach, ← l.state) i;
    bytes = l.bytes;
    ended = l.last;
    stored = l.stored;
  }

-- a map that holds the items of an answer has room for them
within_room : (map : List ℕ) (x : Answer Applied) → length map ≡ 4368 → length (map_after map x) ≡ length map
    → Within (verdict_of x)
within_room map (accepted a its n) l e = omega (arith, length_numbers its, simp (length-append, length-drop) at e)
within_room map (rejected r its) l e = tt

pub within : {s : List ℕ} {c : Point} {map map' : List ℕ} {table table' : List (List ℕ)} {r : Step}
    → Took s 4368 c map map' table table' r → length map ≡ 4368 → length map' ≡ length map → Within r.verdict
within {map = map} t l k = rw t.step (within_room map t.seen.reading l (ap length (sym t.map_after_law) ∙ k))
