-- What is claimed of numbers in a column. proofs/Theorems.antt has the theorem of each.
use Rattle.std.specs.Prelude.{◌≡◌, cond, List, [], ◌∷◌, ℕ, ◌+◌, ◌*◌, ◌-◌, ◌^◌, ◌≤◌, ◌<◌, eqb, length, take, drop}
use Rattle.text.specs.Text.{number}

-- the number that letters say, after those that said v: a blank says nothing
unfoldable pub said_after : ℕ → List ℕ → ℕ
said_after v [] = v
said_after v (c ∷ cs) = said_after (cond (eqb c 32) v (10 * v + (c - 48))) cs

-- in w places of a line, from byte p on
abbrev pub said_at : List ℕ → ℕ → ℕ → ℕ
said_at line p w = said_after 0 (take w (drop p line))

-- a number of at most w digits is said in w places,
abbrev pub NumberIsSaid : Type 0
NumberIsSaid = (w n : ℕ) → n < 10 ^ w → said_after 0 (number w n) ≡ n

-- and takes no more
abbrev pub NumberHasWidth : Type 0
NumberHasWidth = (w n : ℕ) → 1 ≤ w → length (number w n) ≡ w
