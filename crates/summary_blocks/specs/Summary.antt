-- The summary: a line for each stream of a configuration that becomes held, and one for each refused element.
use Rattle.std.specs.Prelude.{Bool, false, cond, not, ◌&&◌, ◌||◌, List, [], ◌++◌, ℕ, eqb, length, Some, None}
use Rattle.kernel.specs.declared.Refusal.{Refusal}
use Rattle.kernel.specs.Element.{Answer, accepted, rejected}
use Rattle.text.specs.Text.{letters}
use Rattle.records.specs.declared.Record.{Record}
use Rattle.records.specs.Same.{same_record}
use Rattle.summary_lines.specs.Lines.{rows_text, refused_text}
use Rattle.element.specs.Held.{Held}
use Rattle.element.specs.Mux.{Applied}
use Rattle.capture.specs.Frames.{start, frames_of}
use Rattle.capture.specs.Blocks.{Report, text_of}

-- a record is held
abbrev pub is_held : Held → Record → Bool
is_held (Some c) r = same_record c r
is_held None r = false

-- an element changes the held configuration where it sends one that was not held
abbrev pub changes : Held → Bool → Record → Bool
changes held sent r = sent && not (is_held held r)

-- its rows, where it does
abbrev pub accepted_text : ℕ → Held → Bool → Record → List ℕ
accepted_text element held sent r = cond (changes held sent r) (rows_text element r) []

-- the first element that is refused for want of a configuration has a line in front that says so
abbrev pub first_wanting : Bool → Refusal → Bool
first_wanting said x = not said && eqb x.number 4

-- that line
abbrev pub wanting_text : List ℕ
wanting_text = letters "no configuration yet: elements cannot be read until one is sent\n"

-- the lines of a refused element
abbrev pub refusal_text : ℕ → Bool → Refusal → List ℕ
refusal_text element wanting x = cond wanting wanting_text [] ++ refused_text element x

-- the lines of the element with this number, by what was held before it and whether the want of a configuration was
-- said
abbrev pub shown : ℕ → Held → Bool → Answer Applied → List ℕ
shown element held said (accepted a its n) = accepted_text element held a.sent a.config
shown element held said (rejected r its) = refusal_text element (first_wanting said r.refusal) r.refusal

-- whether the want of a configuration was said, behind an element
abbrev pub said_after : Bool → Answer Applied → Bool
said_after said (accepted a its n) = said
said_after said (rejected r its) = said || first_wanting said r.refusal

-- of a frame at most 128 rows; what is remembered is whether the want of a configuration was said
abbrev pub lines : Report Bool
lines = record {
  text = λ said m. shown m.number m.before said m.reading;
  after = λ said m. said_after said m.reading;
  most = 14336;
}

-- the first line,
abbrev pub head_text : List ℕ
head_text =
    letters "element  program  layer  stream  core type    core Hz  output Hz"
    ++ letters "  SBR            PS             output channels\n"

-- what is said of a capture that has no frame,
abbrev pub no_frame_text : List ℕ
no_frame_text = letters "no frame in this capture (refusal 20)\n"

-- and of one that was cut off
abbrev pub over_text : List ℕ
over_text = letters "the capture is longer than 65536 bytes: only the first 65536 were read\n"

-- the last lines, by the number of frames and whether the capture was cut off
abbrev pub end_text : ℕ → Bool → List ℕ
end_text frames over = cond (eqb frames 0) no_frame_text [] ++ cond over over_text []

-- the summary of a capture
abbrev pub summary_of : List ℕ → Bool → List ℕ
summary_of s over =
    let ms = frames_of s 4368 start in
    head_text ++ (text_of lines false ms ++ end_text (length ms) over)
