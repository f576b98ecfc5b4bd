-- The frames of a capture one after the other, each with the answer to its element, and what is held over them.
use Rattle.std.specs.Prelude.{◌≡◌, List, [], ◌∷◌, ℕ, zero, suc, ◌+◌, ◌%◌, length, Option, Some, None, Result, Ok, Err}
use Rattle.std.specs.Option.{option_or}
use Rattle.kernel.specs.Element.{Answer}
use Rattle.kernel.specs.declared.Refusal.{Refusal}
use Rattle.sync.specs.declared.Hunted.{Hunted}
use Rattle.sync.specs.Sync.{hunt_of, element_at}
use Rattle.element.specs.Held.{Held}
use Rattle.element.specs.Mux.{Applied}
use Rattle.element.specs.Reply.{answer, held_after, verdict_of, sent_by, map_after, table_after}
use Rattle.reader.specs.Prepared.{prepared_of}
use Rattle.capture.specs.declared.Mark.{Mark}
use Rattle.capture.specs.declared.Holding.{Holding}
use Rattle.capture.specs.declared.Step.{Step}

-- where a capture is come to: the byte from which the next frame is hunted, the number of its element, what is held
pub record Point : Type 0 where
  pub at : ℕ
  pub number : ℕ
  pub held : Held

-- a frame of a capture: its place, the bytes and the number of its element, what was held before it, and the answer to
-- it
pub record Seen : Type 0 where
  pub place : ℕ
  pub size : ℕ
  pub number : ℕ
  pub before : Held
  pub reading : Answer Applied

-- the next frame, if there is one
pub data Next : Type 0 where
  frame : Seen → Next
  none : Next

-- where every capture begins
abbrev pub start : Point
start = record { at = 0; number = 0; held = None }

-- where a capture is come to behind a frame; of no capture has an element a number that the remainder changes
-- (`NumbersInOrder`)
abbrev pub behind : Seen → Point
behind m = record {
  at = m.place + 3 + m.size;
  number = m.number % 65536 + 1;
  held = held_after m.before m.reading;
}

-- the first of some frames, and those behind it
abbrev pub then_frames : Next → (Point → List Seen) → List Seen
then_frames (frame m) rest = m ∷ rest (behind m)
then_frames none rest = []

module _ (s : List ℕ) (room : ℕ) where
  -- the frame of an element of n bytes at place p, read with room for so many numbers in the map
  abbrev pub seen_at : Point → ℕ → ℕ → Seen
  seen_at c p n = record {
    place = p;
    size = n;
    number = c.number;
    before = c.held;
    reading = answer (element_at s p n) c.held room;
  }

  -- by what a hunt found
  abbrev pub next_by : Point → Result Hunted Refusal → Next
  next_by c (Ok h) = frame (seen_at c h.place h.size)
  next_by c (Err x) = none

  -- the first frame at or behind a place
  abbrev pub next_of : Point → Next
  next_of c = next_by c (hunt_of s c.at)

  -- at most k frames from a place on
  unfoldable pub frames_from : ℕ → Point → List Seen
  frames_from zero c = []
  frames_from (suc k) c = then_frames (next_of c) (frames_from k)

  -- all of them (`FramesAreAll`)
  abbrev pub frames_of : Point → List Seen
  frames_of c = frames_from (length s) c

-- where a capture is come to behind some frames
unfoldable pub behind_all : Point → List Seen → Point
behind_all c [] = c
behind_all c (m ∷ ms) = behind_all (behind m) ms

-- of each of some frames
abbrev pub OfEach : (Seen → Type 0) → List Seen → Type 0
OfEach P [] = Unit {0}
OfEach P (m ∷ ms) = P m × OfEach P ms

-- what code keeps of a point
abbrev pub mark_of : Point → Mark
mark_of c = record { at = c.at; number = c.number; prepared = prepared_of c.held }

-- it is the mark of some point
pub record OfPoint (mark : Mark) : Type 0 where
  pub point : Point
  pub is : mark ≡ mark_of point

-- what code keeps that shows or writes what is held
abbrev pub holding_of : Point → Holding
holding_of c = record { mark = mark_of c; held = c.held }

-- and the point that it is of
abbrev pub point_of : Holding → Point
point_of h = record { at = h.mark.at; number = h.mark.number; held = h.held }

-- the mark is that of what is held
abbrev pub Whole : Holding → Type 0
Whole h = h ≡ holding_of (point_of h)

-- where the capture is come to behind the next frame, if there is one
abbrev pub point_then : Point → Next → Point
point_then c (frame m) = behind m
point_then c none = c

-- the step over a frame
abbrev pub step_over : Seen → Step
step_over m = record {
  place = m.place;
  size = m.size;
  verdict = verdict_of m.reading;
  sent = sent_by m.reading;
  next = mark_of (behind m);
}

-- what `advance` answers, by the next frame
abbrev pub step_of : Next → Option Step
step_of (frame m) = Some (step_over m)
step_of none = None

-- and what is then kept by who keeps what is held
abbrev pub holding_behind : Holding → Step → Holding
holding_behind from step = record { mark = step.next; held = option_or step.sent from.held }

-- as it stays where there is no step
abbrev pub holding_then : Holding → Option Step → Holding
holding_then from (Some step) = holding_behind from step
holding_then from None = from

-- the map lent, afterwards: as it stood where there is no frame
abbrev pub map_by : List ℕ → Next → List ℕ
map_by map (frame m) = map_after map m.reading
map_by map none = map

-- and the table
abbrev pub table_by : List (List ℕ) → Next → List (List ℕ)
table_by table (frame m) = table_after table m.reading
table_by table none = table

-- which frame a step took
pub record Took (s : List ℕ) (room : ℕ) (c : Point) (map map' : List ℕ) (table table' : List (List ℕ)) (r : Step)
    : Type 0 where
  pub seen : Seen
  pub is : next_of s room c ≡ frame seen
  pub number : seen.number ≡ c.number
  pub before : seen.before ≡ c.held
  pub step : r ≡ step_over seen
  pub map_after_law : map' ≡ map_after map seen.reading
  pub table_after_law : table' ≡ table_after table seen.reading
