-- What the functions below the summary promise: the same lines, from a verdict, and the record that was sent and the
-- table that the reading left; in blocks.
use Rattle.std.specs.Prelude.{◌≡◌, Bool, cond, ◌||◌, List, [], ℕ, length, Some, None, Result, Ok, Err}
use Rattle.kernel.specs.Lists.{Stored}
use Rattle.kernel.specs.declared.Refusal.{Refusal}
use Rattle.element.specs.Held.{Held}
use Rattle.element.specs.declared.Accepted.{Accepted}
use Rattle.summary_lines.specs.Lines.{programs_text}
use Rattle.capture.specs.declared.Block.{Block}
use Rattle.capture.specs.declared.Step.{Step}
use Rattle.capture.specs.Frames.{Point, holding_of}
use Rattle.capture.specs.Blocks.{block_room, block_text, block_end, block_state, is_last}
use Rattle.summary_blocks.specs.declared.Summary.{Summary}
use Rattle.summary_blocks.specs.Summary.{is_held, first_wanting, refusal_text, lines}

-- the lines of an accepted element
abbrev pub accepted_by : ℕ → Held → Held → List (List ℕ) → List ℕ
accepted_by element held (Some r) table = cond (is_held held r) [] (programs_text element r table 0 16)
accepted_by element held None table = []

-- and of any element
abbrev pub verdict_text : ℕ → Held → Bool → Result Accepted Refusal → Held → List (List ℕ) → List ℕ
verdict_text element held said (Ok a) sent table = accepted_by element held sent table
verdict_text element held said (Err x) sent table = refusal_text element (first_wanting said x) x

-- of the element that a step read
abbrev pub step_text : Summary → Step → List (List ℕ) → List ℕ
step_text r step table = verdict_text r.holding.mark.number r.holding.held r.said step.verdict step.sent table

-- whether the want of a configuration was said, behind it
abbrev pub verdict_said : Bool → Result Accepted Refusal → Bool
verdict_said said (Ok a) = said
verdict_said said (Err x) = said || first_wanting said x

-- the block of a summary from a point on, of so many bytes
abbrev pub block_of : ℕ → List ℕ → Bool → Point → Block Summary
block_of size s said c = record {
  reached = record {
    holding = holding_of (block_end lines size s 4368 said c);
    said = block_state lines size s 4368 said c;
  };
  bytes = length (block_text lines size s 4368 said c);
  ended = is_last lines size s 4368 said c;
}

-- `lay_block`, with its bytes before and after it
abbrev pub BlockPromise : List ℕ → Point → Bool → List ℕ → Block Summary → List ℕ → Type 0
BlockPromise s c said out r out' =
    let size = block_room (length out) in
    (r ≡ block_of size s said c) × Stored out 0 (block_text lines size s 4368 said c) out' r.bytes
