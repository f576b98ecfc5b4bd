-- What is claimed of rows. proofs/Theorems.antt has the theorem of each.
use Rattle.std.specs.Prelude.{◌≡◌, true, [], ℕ, ◌+◌, ◌<◌, ◌≤◌, get_or, pos, Some, None}
use Rattle.kernel.specs.Exactly.{Exactly}
use Rattle.records.specs.declared.Stream.{Stream}
use Rattle.records.specs.declared.Record.{Record}
use Rattle.records.specs.Blank.{no_stream}
use Rattle.records.specs.Table.{share_of, streams_in, table_of}
use Rattle.records.specs.Valid.{valid_of}
use Rattle.row.specs.declared.Row.{Row}
use Rattle.row.specs.Row.{channels_at, row_of, row_in}

-- program p has a layer l, and its stream is one of 16
abbrev pub IsThere : Record → ℕ → ℕ → Type 0
IsThere r p l =
    (p < 16) × (l < 8) × (l < share_of r.layers r.programs p) × (streams_in r.layers r.programs p + l < 16)

-- the cell of program p and layer l in the record's own table
abbrev pub cell_in : Record → ℕ → ℕ → ℕ
cell_in r p l = get_or (get_or (table_of r.layers r.programs) p []) l 0

-- is the number of the stream that is l after the program's first,
abbrev pub CellsNumbered : Type 0
CellsNumbered = (r : Record) (p l : ℕ) → IsThere r p l → cell_in r p l ≡ streams_in r.layers r.programs p + l

-- and 255 for every other pair of 16 by 8
abbrev pub CellsOther : Type 0
CellsOther = (r : Record) (p l : ℕ) → p < 16 → l < 8 → ¬ IsThere r p l → cell_in r p l ≡ 255

-- with the record's own table, layer l of program p has the row of the stream that is l after the program's first,
abbrev pub RowsFound : Type 0
RowsFound = (r : Record) (p l : ℕ) → IsThere r p l
    → row_in r (table_of r.layers r.programs) p l
    ≡ Some (row_of p l (get_or r.streams (streams_in r.layers r.programs p + l) no_stream))

-- and every other pair has none
abbrev pub RowsAbsent : Type 0
RowsAbsent = (r : Record) (p l : ℕ) → ¬ IsThere r p l → row_in r (table_of r.layers r.programs) p l ≡ None

-- in a record that 16 does not refuse each layer of each program has one
abbrev pub EachLayerIsThere : Type 0
EachLayerIsThere =
    (r : Record) (p l : ℕ) → valid_of r ≡ true → p ≤ r.programs → l ≤ get_or r.layers p 0 → IsThere r p l

-- a program of 16, a layer of 8, object type 1 to 4, frequencies of 1 to 2^24 - 1 Hz, and 1 to 8 channels
pub record Carried (x : Row) : Type 0 where
  pub program : x.program < 16
  pub layer : x.layer < 8
  pub core : (1 ≤ x.core) × (x.core ≤ 4)
  pub rate : (1 ≤ x.rate) × (x.rate < 16777216)
  pub output : (1 ≤ x.output) × (x.output < 16777216)
  pub channels : (1 ≤ x.channels) × (x.channels ≤ 8)

-- and its row has no other figures
abbrev pub RowsAreCarried : Type 0
RowsAreCarried = (r : Record) (p l : ℕ) → valid_of r ≡ true → p ≤ r.programs → l ≤ get_or r.layers p 0
    → Carried (row_of p l (get_or r.streams (streams_in r.layers r.programs p + l) no_stream))

-- the row x of a stream of channel configuration c: it has other channels than the configuration exactly where PS is 1
-- and the configuration is 1, and two there
pub record ChannelsTold (x : Row) (c : ℕ) : Type 0 where
  pub differ : Exactly (¬ (x.channels ≡ channels_at c)) ((x.ps ≡ pos 1) × (c ≡ 1))
  pub two : x.ps ≡ pos 1 → c ≡ 1 → x.channels ≡ 2

-- of every stream, also of a record that 16 refuses
abbrev pub ChannelsDiffer : Type 0
ChannelsDiffer = (p l : ℕ) (s : Stream) → ChannelsTold (row_of p l s) s.config.channels
