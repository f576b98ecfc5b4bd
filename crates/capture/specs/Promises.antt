-- The promise that is more than one equation, under a name that its function and the claim that it allows one result
-- share.
use Rattle.std.specs.Prelude.{◌≡◌, List, ℕ, length, Option}
use Rattle.kernel.specs.Lists.{Stored}
use Rattle.capture.specs.declared.Mark.{Mark}
use Rattle.capture.specs.declared.Step.{Step}
use Rattle.capture.specs.declared.Block.{Block}
use Rattle.capture.specs.Frames.{Point, behind, next_of, mark_of, step_of, map_by, table_by, Took}
use Rattle.capture.specs.Blocks.{Report, block_room, block_text, block_end, block_state, is_last}

-- `advance`, with the map and the table before and after it, whatever point the mark is of
abbrev pub AdvancePromise : List ℕ → Mark → List ℕ → List (List ℕ) → Option Step → List ℕ → List (List ℕ) → Type 0
AdvancePromise s mark map table r map' table' =
    (c : Point) → mark ≡ mark_of c → let x = next_of s (length map) c in
    (r ≡ step_of x) × (map' ≡ map_by map x) × (table' ≡ table_by table x)

-- who reports, by what its value R is of: a point and a state
module _ {R S : Type 0} (IsOf : R → Point → S → Type 0) where
  -- it is of some
  pub record IsOfSome (from : R) : Type 0 where
    pub point : Point
    pub state : S
    pub is : IsOf from point state

  -- its mark is that of the point
  abbrev pub MarkPromise : (R → Mark) → Type 0
  MarkPromise mark = (from : R) (c : Point) (x : S) → IsOf from c x → mark from ≡ mark_of c

module _ {R S : Type 0} (w : Report S) (IsOf : R → Point → S → Type 0) where
  -- the text of the frame that a step took,
  abbrev pub LayPromise : R → Step → List ℕ → List (List ℕ) → List ℕ → ℕ → List ℕ → ℕ → Type 0
  LayPromise from step map' table' out at out' to =
      (s : List ℕ) (c : Point) (x : S) (map : List ℕ) (table : List (List ℕ)) → IsOf from c x
      → (t : Took s 4368 c map map' table table' step) → Stored out at (w.text x t.seen) out' to

  -- and where it is come to behind it
  abbrev pub BehindPromise : R → Step → R → Type 0
  BehindPromise from step to =
      (s : List ℕ) (c : Point) (x : S) (map map' : List ℕ) (table table' : List (List ℕ)) → IsOf from c x
      → (t : Took s 4368 c map map' table table' step) → IsOf to (behind t.seen) (w.after x t.seen)

  -- the block of a report from a point and a state on, with its bytes before and after it
  pub record IsBlock (s : List ℕ) (c : Point) (x : S) (out : List ℕ) (r : Block R) (out' : List ℕ) : Type 0 where
    pub reached : let size = block_room (length out) in
        IsOf r.reached (block_end w size s 4368 x c) (block_state w size s 4368 x c)
    pub bytes : r.bytes ≡ length (block_text w (block_room (length out)) s 4368 x c)
    pub ended : r.ended ≡ is_last w (block_room (length out)) s 4368 x c
    pub stored : Stored out 0 (block_text w (block_room (length out)) s 4368 x c) out' r.bytes

  -- `lay_block`, whatever point and state its value is of
  abbrev pub BlockPromise : List ℕ → R → List ℕ → Block R → List ℕ → Type 0
  BlockPromise s from out r out' = (c : Point) (x : S) → IsOf from c x → IsBlock s c x out r out'
