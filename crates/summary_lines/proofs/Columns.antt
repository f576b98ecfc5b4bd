-- The columns of a line say its figures: none has more digits than its places.
use mathlib.Core.Path.{◌≡◌, refl, sym, ap, ◌∙◌}
use mathlib.Core.List.{List, ◌++◌}
use Prim.Native.Nat.{ℕ, zero, suc, ◌+◌, ◌≤◌, ◌<◌}
use native.Mathlib.Omega.{arith}
use lib.IntN.{ℤ}
use lib.ListN.{take, drop}
use lib.Seq.{drop-append-add}
use Rattle.kernel.specs.declared.Refusal.{Refusal}
use Rattle.text.specs.Text.{figures, number}
use Rattle.text.specs.Claims.{said_after, said_at}
use Rattle.text.proofs.Theorems.{number_is_said}
use Rattle.row.specs.declared.Row.{Row}
use Rattle.row.specs.Claims.{Carried}
use Rattle.row.proofs.Theorems.{each_layer_is_there, rows_are_carried}
use Rattle.element.proofs.Theorems.{refusal_is_numbered, figures_are_small}
use Rattle.summary_lines.specs.Lines.{core_text, flag_text, signal_text, row_text, refused_text}
use Rattle.summary_lines.proofs.Laid.{length_flag}
use Rattle.summary_lines.specs.Claims.{RowSaid, RefusalSaid, NothingIsLost, NothingOfRefusalIsLost}

-- ---- a row

-- the name of a core type begins with its number
core_says : (core rate output : ℕ) (rest : List ℕ) → 1 ≤ core → core ≤ 4 → said_after 0 (number 8 rate) ≡ rate
    → said_after 0 (number 9 output) ≡ output
    → let line = core_text core rate output ++ rest in
    (said_at line 2 1 ≡ core) × (said_at line 14 8 ≡ rate) × (said_at line 24 9 ≡ output) × (drop 65 line ≡ drop 32 rest)
unfolding figures
core_says zero rate output rest lo hi a b = absurd (omega arith)
core_says (suc zero) rate output rest lo hi a b = (number_is_said 1 1 (omega arith), a, b, refl)
core_says (suc (suc zero)) rate output rest lo hi a b = (number_is_said 1 2 (omega arith), a, b, refl)
core_says (suc (suc (suc zero))) rate output rest lo hi a b = (number_is_said 1 3 (omega arith), a, b, refl)
core_says (suc (suc (suc (suc zero)))) rate output rest lo hi a b = (number_is_said 1 4 (omega arith), a, b, refl)
core_says (suc (suc (suc (suc (suc n))))) rate output rest lo hi a b = absurd (omega arith)

past_flag : (z : ℤ) (rest : List ℕ) (n : ℕ) → drop (15 + n) (flag_text z ++ rest) ≡ drop n rest
past_flag z rest n = ap (λ (k : ℕ). drop (k + n) (flag_text z ++ rest)) (sym (length_flag z))
    ∙ drop-append-add (flag_text z) rest n

row_says : (element i : ℕ) (x : Row) → element < 10000000 → i < 16 → Carried x
    → RowSaid (row_text element i x) element i x
unfolding figures
row_says element i x h k c =
    let rate = number_is_said 8 x.rate (omega (arith, c.rate.1)) in
    let output = number_is_said 9 x.output (omega (arith, c.output.1)) in
    let s = core_says x.core x.rate x.output (signal_text x.sbr x.ps x.channels) c.core.0
    c.core.1 rate output in
    record {
      element = number_is_said 7 element (omega arith);
      program = number_is_said 7 x.program (omega (arith, c.program));
      layer = number_is_said 5 x.layer (omega (arith, c.layer));
      stream = number_is_said 6 i (omega arith);
      core = s.0;
      rate = s.1;
      output = s.2;
      channels =
          ap (λ (l : List ℕ). said_after 0 (take 15 l)) (s.3 ∙ past_flag x.sbr _ 17 ∙ past_flag x.ps _ 2)
          ∙ number_is_said 15 x.channels (omega (arith, c.channels.1));
    }

pub row_lost : NothingIsLost
row_lost element r p l h v hp hl =
    row_says element _ _ h (each_layer_is_there r p l v hp hl).3 (rows_are_carried r p l v hp hl)

-- ---- a refusal

refusal_says : (element : ℕ) (x : Refusal) → element < 10000000 → x.number ≤ 15 → x.place ≤ 65528 → x.fields ≤ 65528
    → RefusalSaid (refused_text element x) element x
unfolding figures
refusal_says element x h n p c = record {
  element = number_is_said 7 element (omega arith);
  refusal = number_is_said 2 x.number (omega arith);
  place = number_is_said 5 x.place (omega arith);
  count = number_is_said 5 x.fields (omega arith);
}

pub refusal_lost : NothingOfRefusalIsLost
refusal_lost element s held r its h e =
    let f : (r.refusal.place ≤ 65528) × (r.refusal.fields ≤ 65528) = rw e at (figures_are_small s held 4368) in
    refusal_says element r.refusal h (refusal_is_numbered s held 4368 r its e).1 f.0 f.1
