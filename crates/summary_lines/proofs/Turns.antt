-- A turn of each loop over the rows: what is left of the lines from a layer or a program on.
use mathlib.Core.Path.{◌≡◌}
use mathlib.Core.List.{List, [], ◌++◌}
use Prim.Native.Nat.{ℕ, suc, ◌+◌, ◌-◌, ◌<◌, ◌≤◌}
use native.Mathlib.Omega.{arith}
use lib.ListN.{get_or}
use Rattle.records.specs.declared.Record.{Record}
use Rattle.row.specs.Row.{row_in}
use Rattle.summary_lines.specs.Lines.{found_text, layers_text, programs_text}
use Rattle.summary_lines.proofs.Laid.{in_parts}

module _ (element : ℕ) (r : Record) (table : List (List ℕ)) where
  unfoldable pub layers_left : ℕ → ℕ → List ℕ
  layers_left p l = layers_text element r table p l (8 - l)

  pub layers_start : (p l : ℕ) → l ≡ 0 → layers_left p l ≡ layers_text element r table p 0 8
  unfolding layers_left
  layers_start p l e = rw e

  pub layers_turn : (p l : ℕ) → l < 8 → layers_left p l
      ≡ found_text element (get_or (get_or table p []) l 0) (row_in r table p l) ++ layers_left p (l + 1)
  unfolding layers_left layers_text
  layers_turn p l h = let n : 8 - l ≡ suc (8 - (l + 1)) = omega arith in rw n

  pub layers_end : (p l : ℕ) → 8 ≤ l → layers_left p l ≡ []
  unfolding layers_left layers_text
  layers_end p l h = let n : 8 - l ≡ 0 = omega arith in rw n

  unfoldable pub programs_left : ℕ → List ℕ
  programs_left p = programs_text element r table p (16 - p)

  pub programs_start : (p : ℕ) → p ≡ 0 → programs_left p ≡ programs_text element r table 0 16
  unfolding programs_left
  programs_start p e = rw e

  pub programs_turn : (p : ℕ) → p < 16
      → programs_left p ≡ layers_text element r table p 0 8 ++ programs_left (p + 1)
  unfolding programs_left programs_text
  programs_turn p h = let n : 16 - p ≡ suc (16 - (p + 1)) = omega arith in rw n

  pub programs_end : (p : ℕ) → 16 ≤ p → programs_left p ≡ []
  unfolding programs_left programs_text
  programs_end p h = let n : 16 - p ≡ 0 = omega arith in rw n

pub ruleset layer_by_layer = (in_parts, layers_start, layers_turn, layers_end)

pub ruleset program_by_program = (in_parts, programs_start, programs_turn, programs_end)
