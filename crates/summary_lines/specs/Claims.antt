-- What is claimed of the summary. proofs/Theorems.antt has the theorem of each.
use Rattle.std.specs.Prelude.{◌≡◌, true, List, [], ◌++◌, ℕ, zero, suc, ◌+◌, ◌≤◌, ◌<◌, get_or}
use Rattle.kernel.specs.declared.Refusal.{Refusal}
use Rattle.kernel.specs.Reading.{Stop}
use Rattle.kernel.specs.Element.{Item, rejected}
use Rattle.text.specs.Claims.{said_at}
use Rattle.records.specs.declared.Record.{Record}
use Rattle.records.specs.Blank.{no_stream}
use Rattle.records.specs.Table.{streams_in}
use Rattle.records.specs.Valid.{valid_of}
use Rattle.row.specs.declared.Row.{Row}
use Rattle.row.specs.Row.{row_of}
use Rattle.element.specs.Held.{Held}
use Rattle.element.specs.Reply.{answer}
use Rattle.summary_lines.specs.Lines.{row_text, rows_text, refused_text}

module _ (element : ℕ) (r : Record) where
  -- the line of layer l of program p, whose stream is l after the program's first
  abbrev pub layer_line : ℕ → ℕ → List ℕ
  layer_line p l =
      let i = streams_in r.layers r.programs p + l in
      row_text element i (row_of p l (get_or r.streams i no_stream))

  -- k layers of program p, from layer l on
  unfoldable pub layer_lines : ℕ → ℕ → ℕ → List ℕ
  layer_lines p l zero = []
  layer_lines p l (suc k) = layer_line p l ++ layer_lines p (l + 1) k

  -- k programs from program p on, numLayer + 1 layers of each
  unfoldable pub program_lines : ℕ → ℕ → List ℕ
  program_lines p zero = []
  program_lines p (suc k) = layer_lines p 0 (get_or r.layers p 0 + 1) ++ program_lines (p + 1) k

-- a record that 16 does not refuse has a line for each layer of its numProgram + 1 programs
abbrev pub LineForEachLayer : Type 0
LineForEachLayer = (element : ℕ) (r : Record) → valid_of r ≡ true
    → rows_text element r ≡ program_lines element r 0 (r.programs + 1)

-- the columns of a line say the figures of a row and the numbers of its element and its stream
pub record RowSaid (line : List ℕ) (number i : ℕ) (x : Row) : Type 0 where
  pub element : said_at line 0 7 ≡ number
  pub program : said_at line 9 7 ≡ x.program
  pub layer : said_at line 18 5 ≡ x.layer
  pub stream : said_at line 25 6 ≡ i
  pub core : said_at line 33 1 ≡ x.core
  pub rate : said_at line 45 8 ≡ x.rate
  pub output : said_at line 55 9 ≡ x.output
  pub channels : said_at line 96 15 ≡ x.channels

-- so do those of each line of a record that 16 does not refuse, of an element whose number is below 10,000,000
abbrev pub NothingIsLost : Type 0
NothingIsLost = (element : ℕ) (r : Record) (p l : ℕ) → element < 10000000 → valid_of r ≡ true → p ≤ r.programs
    → l ≤ get_or r.layers p 0
    → let i = streams_in r.layers r.programs p + l in
    RowSaid (layer_line element r p l) element i (row_of p l (get_or r.streams i no_stream))

-- the places of a refused element's line say its number, and the refusal's number, place and count
pub record RefusalSaid (line : List ℕ) (number : ℕ) (x : Refusal) : Type 0 where
  pub element : said_at line 0 7 ≡ number
  pub refusal : said_at line 17 2 ≡ x.number
  pub place : said_at line 28 5 ≡ x.place
  pub count : said_at line 47 5 ≡ x.fields

-- so do those of each element that is refused, again with a number below 10,000,000
abbrev pub NothingOfRefusalIsLost : Type 0
NothingOfRefusalIsLost = (element : ℕ) (s : List ℕ) (held : Held) (r : Stop) (its : List Item)
    → element < 10000000 → answer s held 4368 ≡ rejected r its
    → RefusalSaid (refused_text element r.refusal) element r.refusal
