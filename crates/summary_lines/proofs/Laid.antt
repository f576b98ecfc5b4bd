-- What is laid in parts, and the length of a flag's text.
use mathlib.Core.Path.{◌≡◌, refl, sym}
use mathlib.Core.Bool.{Bool, true, false, cond}
use mathlib.Core.List.{List, ◌++◌}
use Prim.Native.Nat.{ℕ, ◌+◌}
use lib.Dec.{eqb}
use lib.IntN.{ℤ, pos, negsuc}
use lib.ListN.{length, length-append}
use Rattle.std.proofs.lemmas.List.Edits.{sets}
use Rattle.kernel.proofs.Lists.{sets-append}
use Rattle.text.specs.Text.{letters}
use Rattle.summary_lines.specs.Lines.{flag_text}

pub sets_parts : (xs ys l : List ℕ) (i : ℕ) → sets l i (xs ++ ys) ≡ sets (sets l i xs) (i + length xs) ys
sets_parts xs ys l i = sym (sets-append xs ys l i (i + length xs) refl)

pub ruleset in_parts = (sets_parts, length-append)

yes_or_no : (t : Bool) → length (cond t (letters "  no           ") (letters "  yes          ")) ≡ 15
yes_or_no true = refl
yes_or_no false = refl

pub length_flag : (z : ℤ) → length (flag_text z) ≡ 15
length_flag (pos n) = yes_or_no (eqb n 0)
length_flag (negsuc n) = refl

pub ruleset with_flags = (in_parts, length_flag)
