-- The lines of a record's rows are those of its streams, none missing and none twice.
use mathlib.Core.Path.{◌≡◌, refl}
use mathlib.Core.Bool.{Bool, true, false}
use mathlib.Core.List.{List, [], ◌++◌}
use Prim.Native.Nat.{ℕ, zero, suc, ◌+◌, ◌-◌, ◌≤◌, ◌<◌}
use native.Mathlib.Omega.{arith}
use lib.Dec.{ltb, leb}
use lib.ListN.{get_or}
use borrow.Author.Tests.{ltb-true, ltb-false, leb-true, leb-false, le-leb, lt-leb}
use Rattle.records.specs.declared.Record.{Record}
use Rattle.records.specs.Table.{share_of, table_of}
use Rattle.records.specs.Valid.{valid_of}
use Rattle.records.proofs.Apart.{record_ok}
use Rattle.row.specs.Claims.{IsThere}
use Rattle.row.specs.Row.{row_in}
use Rattle.row.proofs.Theorems.{cells_numbered, rows_found, rows_absent, each_layer_is_there}
use Rattle.summary_lines.specs.Lines.{found_text, layers_text, programs_text}
use Rattle.summary_lines.specs.Claims.{layer_line, layer_lines, program_lines, LineForEachLayer}

module _ (element : ℕ) (r : Record) (v : valid_of r ≡ true) where
  abbrev table : List (List ℕ)
  table = table_of r.layers r.programs

  abbrev share : ℕ → ℕ
  share p = share_of r.layers r.programs p

  abbrev line : ℕ → ℕ → List ℕ
  line p l = found_text element (get_or (get_or table p []) l 0) (row_in r table p l)

  share_in : (p : ℕ) → p ≤ r.programs → share p ≡ get_or r.layers p 0 + 1
  share_in p h = rw (le-leb p r.programs h)

  share_out : (p : ℕ) → r.programs < p → share p ≡ 0
  share_out p h = rw (lt-leb p r.programs h)

  line_there : (p l : ℕ) → p ≤ r.programs → l < share p → line p l ≡ layer_line element r p l
  line_there p l hp hl =
      let i = each_layer_is_there r p l v hp (omega (arith, share_in p hp)) in
      rw (rows_found r p l i, cells_numbered r p l i)

  line_none : (p l : ℕ) → share p ≤ l → line p l ≡ []
  line_none p l h = let n : IsThere r p l → ⊥ = λ i. omega (arith, i.2) in rw (rows_absent r p l n)

  -- of a program that is there, and of one that is not
  layers_there : (p k l : ℕ) → p ≤ r.programs → l + k ≡ 8
      → layers_text element r table p l k ≡ layer_lines element r p l (share p - l)
  unfolding layers_text layer_lines
  layers_there p zero l hp e =
      let n : share p - l ≡ 0 = omega (arith, share_in p hp, (record_ok r v).layers p hp) in
      rw n
  layers_there p (suc k) l hp e = go (ltb l (share p)) refl (layers_there p k (l + 1) hp (omega arith))
    where
      go : (t : Bool) → ltb l (share p) ≡ t
          → layers_text element r table p (l + 1) k ≡ layer_lines element r p (l + 1) (share p - (l + 1))
          → line p l ++ layers_text element r table p (l + 1) k ≡ layer_lines element r p l (share p - l)
      go true t ih =
          let h : l < share p = ltb-true l (share p) t in
          let n : share p - l ≡ suc (share p - (l + 1)) = omega arith in
          rw (n, line_there p l hp h, ih)
      go false t ih =
          let h : share p ≤ l = ltb-false l (share p) t in
          let n : share p - l ≡ 0 = omega arith in
          let m : share p - (l + 1) ≡ 0 = omega arith in
          rw (n, line_none p l h) (rw m at ih)

  layers_none : (p k l : ℕ) → r.programs < p → layers_text element r table p l k ≡ []
  unfolding layers_text
  layers_none p zero l hp = refl
  layers_none p (suc k) l hp = rw (line_none p l (omega (arith, share_out p hp))) (layers_none p k (l + 1) hp)

  programs_lines : (k p : ℕ) → p + k ≡ 16
      → programs_text element r table p k ≡ program_lines element r p (r.programs + 1 - p)
  unfolding programs_text program_lines
  programs_lines zero p e = let n : r.programs + 1 - p ≡ 0 = omega (arith, (record_ok r v).programs) in rw n
  programs_lines (suc k) p e = go (leb p r.programs) refl (programs_lines k (p + 1) (omega arith))
    where
      go : (t : Bool) → leb p r.programs ≡ t
          → programs_text element r table (p + 1) k ≡ program_lines element r (p + 1) (r.programs + 1 - (p + 1))
          → layers_text element r table p 0 8 ++ programs_text element r table (p + 1) k
          ≡ program_lines element r p (r.programs + 1 - p)
      go true t ih =
          let h : p ≤ r.programs = leb-true p r.programs t in
          let n : r.programs + 1 - p ≡ suc (r.programs + 1 - (p + 1)) = omega arith in
          let m : share p - 0 ≡ get_or r.layers p 0 + 1 = omega (arith, share_in p h) in
          rw (n, layers_there p 8 0 h refl, m, ih)
      go false t ih =
          let h : r.programs < p = leb-false p r.programs t in
          let n : r.programs + 1 - p ≡ 0 = omega arith in
          let m : r.programs + 1 - (p + 1) ≡ 0 = omega arith in
          rw (n, layers_none p 8 0 h) (rw m at ih)

pub line_for_each : LineForEachLayer
line_for_each element r v =
    let n : r.programs + 1 - 0 ≡ r.programs + 1 = omega arith in
    rw n at (programs_lines element r v 16 0 refl)
