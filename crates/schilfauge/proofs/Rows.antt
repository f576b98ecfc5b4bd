-- The words of a row, by the record's own table.
use mathlib.Core.Path.{◌≡◌, refl}
use mathlib.Core.List.{◌∷◌}
use Prim.Native.Nat.{ℕ, ◌+◌}
use lib.ListN.{get_or, replicate}
use lib.IntN.{pos}
use borrow.Author.Tests.{lt-ltb}
use Rattle.records.specs.declared.Record.{Record}
use Rattle.records.specs.Blank.{no_stream}
use Rattle.records.specs.Table.{share_of, streams_in, table_of}
use Rattle.records.proofs.Tables.{cell_at, cell_there}
use Rattle.std.specs.Prelude.{Some}
use Rattle.row.specs.Row.{row_of}
use Rattle.row.specs.Claims.{IsThere}
use Rattle.row.proofs.Theorems.{rows_found, rows_absent}
use Rattle.schilfauge.specs.Lent.{stream_at, row_words, row_at}

module _ (r : Record) (p l : ℕ) where
  abbrev first : ℕ
  first = streams_in r.layers r.programs p

  stream_there : IsThere r p l → stream_at (table_of r.layers r.programs) p l ≡ first + l
  stream_there h =
      rw (
        lt-ltb p 16 h.0,
        lt-ltb l 8 h.1,
        cell_at r.layers r.programs p l 0 h.0 h.1,
        cell_there first (share_of r.layers r.programs p) l h.2 h.3,
      )

  pub words_there : IsThere r p l
      → row_at r (table_of r.layers r.programs) p l
      ≡ row_words (first + l) (Some (row_of p l (get_or r.streams (first + l) no_stream)))
  words_there h = rw (rows_found r p l h, stream_there h) refl

  pub words_absent : ¬ IsThere r p l → row_at r (table_of r.layers r.programs) p l ≡ pos 255 ∷ replicate 8 (pos 0)
  words_absent h = rw (rows_absent r p l h) refl
