-- What is claimed of the summary. proofs/Theorems.antt has the theorem of each.
use Rattle.std.specs.Prelude.{◌≡◌, Bool, false, List, ◌++◌, ℕ, ◌≤◌, length}
use Rattle.capture.specs.Frames.{start, frames_of, behind_all}
use Rattle.capture.specs.Blocks.{blocks}
use Rattle.capture.specs.Worked.{bytes01}
use Rattle.text.specs.Text.{letters}
use Rattle.summary_blocks.specs.Summary.{lines, head_text, end_text, summary_of}

-- The first line, the text of blocks one after the other up to the last, each from where the one before was come to,
-- and the last lines by the number of the element come to are the summary: as many blocks as a capture has bytes are
-- enough, if each has room for 128 rows.
abbrev pub SummaryIsWhole : Type 0
SummaryIsWhole = (s : List ℕ) (over : Bool) (size : ℕ) → 14336 ≤ size
    → head_text
    ++ (blocks lines size s 4368 (length s) false start
    ++ end_text (behind_all start (frames_of s 4368 start)).number over)
    ≡ summary_of s over

-- for document 01's bytes: a line for its one stream, and no more where the configuration is held
abbrev pub WorkedSummary : Type 0
WorkedSummary =
    summary_of bytes01 false
    ≡ head_text
    ++ (letters "      0        0      0       0  2 AAC LC       48000      48000"
    ++ letters "  not signalled  not signalled                2\n")
