-- What is claimed of the frames of a capture. proofs/Theorems.antt has the theorem of each.
use Rattle.std.specs.Prelude.{◌≡◌, true, List, [], ◌∷◌, ◌++◌, ℕ, ◌+◌, ◌≤◌, length, Option}
use Rattle.capture.specs.declared.Mark.{Mark}
use Rattle.capture.specs.declared.Step.{Step}
use Rattle.capture.specs.Frames.{Point, Seen, frame, start, next_of, frames_from, frames_of, behind_all, OfPoint}
use Rattle.capture.specs.Frames.{holding_of, point_then, step_of, holding_then}
use Rattle.capture.specs.Blocks.{block_room, Report, text_of, block_end, is_last, blocks}
use Rattle.capture.specs.declared.Block.{Block}
use Rattle.capture.specs.Promises.{AdvancePromise, IsOfSome, BlockPromise}

-- no frame is left out: where more are allowed than a capture has bytes, they are the same
abbrev pub FramesAreAll : Type 0
FramesAreAll = (s : List ℕ) (room more : ℕ) (c : Point) → frames_from s room (length s + more) c ≡ frames_of s room c

-- a frame that is next lies inside the capture, at or behind the place come to
abbrev pub NextIsInside : Type 0
NextIsInside = (s : List ℕ) (room : ℕ) (c : Point) (m : Seen) → next_of s room c ≡ frame m
    → (c.at ≤ m.place) × (1 ≤ m.size) × (m.place + 3 + m.size ≤ length s) × (length s ≤ 65536)

-- a capture read in two sittings, stopped behind any frame, has the same frames as in one
abbrev pub SittingsAreOne : Type 0
SittingsAreOne = (s : List ℕ) (room k : ℕ) (c : Point)
    → let ms = frames_from s room k c in frames_of s room c ≡ ms ++ frames_of s room (behind_all c ms)

-- numbers from n on, one after the other
abbrev pub Numbered : ℕ → List Seen → Type 0
Numbered n [] = Unit {0}
Numbered n (m ∷ ms) = (m.number ≡ n) × Numbered (n + 1) ms

-- the elements of a capture are numbered from 0
abbrev pub NumbersInOrder : Type 0
NumbersInOrder = (s : List ℕ) (room : ℕ) → Numbered 0 (frames_of s room start)

-- of up to 65,536 bytes lent for a block none is left out, and of more so many are used
abbrev pub RoomIsUsed : Type 0
RoomIsUsed = (n : ℕ) → (n ≤ 65536 → block_room n ≡ n) × (65536 ≤ n → block_room n ≡ 65536)

-- behind the last block no frame is left
abbrev pub LastLeavesNone : Type 1
LastLeavesNone = (S : Type 0) (w : Report S) (size : ℕ) (s : List ℕ) (room : ℕ) (x : S) (c : Point)
    → is_last w size s room x c ≡ true → frames_of s room (block_end w size s room x c) ≡ []

-- a text of frames is laid whole in blocks up to the last, of which there are no more than bytes in the capture, where
-- a block has room for the longest text of a frame
abbrev pub BlocksAreWhole : Type 1
BlocksAreWhole = (S : Type 0) (w : Report S) (size : ℕ) (s : List ℕ) (room : ℕ) (x : S) (c : Point)
    → w.most ≤ size → blocks w size s room (length s) x c ≡ text_of w x (frames_of s room c)

-- the promise of `advance` allows one answer, one map and one table
abbrev pub AdvancedOnce : Type 0
AdvancedOnce = (s : List ℕ) (mark : Mark) (map map₁ map₂ : List ℕ) (table table₁ table₂ : List (List ℕ)) (x y : Option Step)
    → OfPoint mark → AdvancePromise s mark map table x map₁ table₁ → AdvancePromise s mark map table y map₂ table₂
    → (x ≡ y) × (map₁ ≡ map₂) × (table₁ ≡ table₂)

-- a step leads on what is held, too: from the holding of a point to that of the point behind the frame
abbrev pub HoldingFollows : Type 0
HoldingFollows = (s : List ℕ) (room : ℕ) (c : Point) → let x = next_of s room c in
    holding_then (holding_of c) (step_of x) ≡ holding_of (point_then c x)

-- and that of `lay_block` one block, and one content of the bytes lent, of a report whose value is one for each point
-- and state
abbrev pub BlockLaidOnce : Type 1
BlockLaidOnce = (R S : Type 0) (w : Report S) (IsOf : R → Point → S → Type 0) (s : List ℕ) (from : R)
    (out out₁ out₂ : List ℕ) (x y : Block R)
    → ((c : Point) (a : S) (p q : R) → IsOf p c a → IsOf q c a → p ≡ q) → IsOfSome IsOf from
    → BlockPromise w IsOf s from out x out₁ → BlockPromise w IsOf s from out y out₂ → (x ≡ y) × (out₁ ≡ out₂)
