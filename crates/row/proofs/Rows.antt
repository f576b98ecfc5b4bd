-- Laws of rows: the cell and the row found in a record's own table.
use mathlib.Core.Path.{◌≡◌, refl, ◌∙◌}
use mathlib.Core.Bool.{Bool, true, false, cond}
use Prim.Native.Nat.{ℕ, ◌+◌, ◌<◌, ◌≤◌}
use native.Mathlib.Omega.{arith}
use lib.ListN.{get_or}
use lib.Dec.{ltb}
use borrow.Author.Tests.{lt-ltb, ltb-true, le-leb}
use Rattle.records.specs.declared.Record.{Record}
use Rattle.records.specs.Blank.{no_stream}
use Rattle.records.specs.Table.{share_of, streams_in, table_of}
use Rattle.records.specs.Valid.{valid_of}
use Rattle.records.proofs.Apart.{record_ok}
use Rattle.records.proofs.Tables.{cell_at, cell_there, streams_next, streams_upto}
use Rattle.std.specs.Prelude.{Some, None}
use Rattle.row.specs.Row.{row_of, numbered, row_in}
use Rattle.row.specs.Claims.{IsThere, cell_in}

module _ (r : Record) (p l : ℕ) where
  abbrev first : ℕ
  first = streams_in r.layers r.programs p

  abbrev share : ℕ
  share = share_of r.layers r.programs p

  pub cell_of_law : IsThere r p l → cell_in r p l ≡ first + l
  cell_of_law h = cell_at r.layers r.programs p l 0 h.0 h.1 ∙ cell_there first share l h.2 h.3

  not_both : (a b : Bool) → (a ≡ true → b ≡ true → ⊥) → cond a (cond b (first + l) 255) 255 ≡ 255
  not_both true true h = absurd (h refl refl)
  not_both true false h = refl
  not_both false b h = refl

  pub cell_other : p < 16 → l < 8 → ¬ IsThere r p l → cell_in r p l ≡ 255
  cell_other hp hl h =
      cell_at r.layers r.programs p l 0 hp hl
      ∙ not_both (ltb l share) (ltb (first + l) 16) (λ c d. h (hp, hl, ltb-true l share c, ltb-true (first + l) 16 d))

  pub row_there : IsThere r p l
      → row_in r (table_of r.layers r.programs) p l ≡ Some (row_of p l (get_or r.streams (first + l) no_stream))
  row_there h = rw (lt-ltb p 16 h.0, lt-ltb l 8 h.1, cell_of_law h, lt-ltb (first + l) 16 h.3)

  absent : ¬ IsThere r p l → (a b : Bool) → ltb p 16 ≡ a → ltb l 8 ≡ b
      → cond a (cond b (numbered r p l (cell_in r p l)) None) None ≡ None
  absent h false b e q = refl
  absent h true false e q = refl
  absent h true true e q = rw (cell_other (ltb-true p 16 e) (ltb-true l 8 q) h)

  pub row_absent : ¬ IsThere r p l → row_in r (table_of r.layers r.programs) p l ≡ None
  row_absent h = absent h (ltb p 16) (ltb l 8) refl refl

pub layer_there : (r : Record) (p l : ℕ) → valid_of r ≡ true → p ≤ r.programs → l ≤ get_or r.layers p 0 → IsThere r p l
layer_there r p l v hp hl =
    let h = record_ok r v in
    let n = streams_next r.layers r.programs p hp in
    let u = streams_upto r.layers r.programs (p + 1) 16 (omega (arith, h.programs)) in (
      omega (arith, h.programs),
      omega (arith, h.layers p hp),
      rw (le-leb p r.programs hp) (omega arith),
      omega (arith, n, u, h.count),
    )
