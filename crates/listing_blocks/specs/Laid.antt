-- What the functions below the listing promise: the same records, from the numbers of a map, and in blocks.
use Rattle.std.specs.Prelude.{◌≡◌, List, [], ◌++◌, ℕ, zero, suc, ◌+◌, length, Result, Ok, Err}
use Rattle.kernel.specs.Lists.{Stored}
use Rattle.kernel.specs.declared.Refusal.{Refusal}
use Rattle.element.specs.declared.Accepted.{Accepted}
use Rattle.items.specs.declared.Item.{Item}
use Rattle.items.specs.Items.{item_at}
use Rattle.capture.specs.declared.Mark.{Mark}
use Rattle.capture.specs.Frames.{Point, mark_of}
use Rattle.capture.specs.Blocks.{block_room, block_text, block_end, is_last}
use Rattle.capture.specs.declared.Block.{Block}
use Rattle.listing_blocks.specs.declared.Listing.{Listing}
use Rattle.listing_blocks.specs.Listing.{line_of, letter_of, refused_line, records}

-- the record of an item as a map shows it
abbrev pub line_by : ℕ → Item → List ℕ
line_by number it = line_of number (letter_of it.kind) it.stream it.first it.width

-- the records of k items of a map, from item i on
unfoldable pub map_lines : ℕ → List ℕ → ℕ → ℕ → List ℕ
map_lines number map i zero = []
map_lines number map i (suc k) = line_by number (item_at map i) ++ map_lines number map (i + 1) k

-- the records of an element, by its verdict and the map that its reading left
abbrev pub verdict_lines : ℕ → Result Accepted Refusal → List ℕ → List ℕ
verdict_lines number (Ok a) map = map_lines number map 0 a.items
verdict_lines number (Err x) map = refused_line number x.number x.place x.fields

-- the block of a listing from a point on, of so many bytes
abbrev pub block_of : ℕ → List ℕ → Point → Block Listing
block_of size s c = record {
  reached = record { mark = mark_of (block_end records size s 4368 tt c) };
  bytes = length (block_text records size s 4368 tt c);
  ended = is_last records size s 4368 tt c;
}

-- `lay_block`, with its bytes before and after it, whatever point the mark is of
abbrev pub BlockPromise : List ℕ → Mark → List ℕ → Block Listing → List ℕ → Type 0
BlockPromise s mark out r out' =
    (c : Point) → mark ≡ mark_of c → let size = block_room (length out) in
    (r ≡ block_of size s c) × Stored out 0 (block_text records size s 4368 tt c) out' r.bytes
