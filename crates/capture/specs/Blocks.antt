-- The text of frames one after the other, and the frames whose text is laid into a block.
use Rattle.std.specs.Prelude.{Bool, cond, List, [], ◌∷◌, ◌++◌, ℕ, zero, suc, ◌+◌, ◌≤◌, min, leb, length}
use Rattle.std.specs.Prelude.{Result, Ok, Err}
use Rattle.kernel.specs.declared.Refusal.{Refusal}
use Rattle.element.specs.declared.Accepted.{Accepted}
use Rattle.capture.specs.Frames.{Point, Seen, frames_of, behind_all}

-- of so many bytes lent for a block no more than 65,536 are used
abbrev pub block_room : ℕ → ℕ
block_room length = min 65536 length

-- a report of frames: the text of each, by a state that frames change, and the most bytes that such a text has
pub record Report (S : Type 0) : Type 0 where
  pub text : S → Seen → List ℕ
  pub after : S → Seen → S
  pub most : ℕ

-- no more items than a map has room for
abbrev pub Within : Result Accepted Refusal → Type 0
Within (Ok a) = a.items ≤ 1092
Within (Err x) = Unit {0}

module _ {S : Type 0} (w : Report S) where
  -- the texts of some frames one after the other, from a state on
  unfoldable pub text_of : S → List Seen → List ℕ
  text_of x [] = []
  text_of x (m ∷ ms) = w.text x m ++ text_of (w.after x m) ms

  -- and the state behind them
  unfoldable pub after_all : S → List Seen → S
  after_all x [] = x
  after_all x (m ∷ ms) = after_all (w.after x m) ms

  module _ (size : ℕ) where
    -- the first of some frames, behind so many bytes of a block: as long as it has room for the longest text
    unfoldable pub fitting : S → ℕ → List Seen → List Seen
    fitting x used [] = []
    fitting x used (m ∷ ms) =
        cond (leb (used + w.most) size) (m ∷ fitting (w.after x m) (used + length (w.text x m)) ms) []

    -- the block of a capture from a point on:
    module _ (s : List ℕ) (room : ℕ) where
      module _ (x : S) (c : Point) where
        -- its frames,
        abbrev pub block_frames : List Seen
        block_frames = fitting x 0 (frames_of s room c)

        -- their text,
        abbrev pub block_text : List ℕ
        block_text = text_of x block_frames

        -- where the capture is come to behind it,
        abbrev pub block_end : Point
        block_end = behind_all c block_frames

        -- and the state there
        abbrev pub block_state : S
        block_state = after_all x block_frames

        -- a block with room for one text more is the last (`LastLeavesNone`)
        abbrev pub is_last : Bool
        is_last = leb (length block_text + w.most) size

      -- the text of at most k blocks one after the other, each from where the one before was come to, up to the last
      unfoldable pub blocks : ℕ → S → Point → List ℕ
      blocks zero x c = []
      blocks (suc k) x c = block_text x c ++ cond (is_last x c) [] (blocks k (block_state x c) (block_end x c))
