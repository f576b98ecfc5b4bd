-- Text in bytes: words, and numbers in a column.
use Rattle.std.specs.Prelude.{cond, List, [], ◌∷◌, ◌++◌, ℕ, zero, suc, ◌+◌, ◌-◌, ◌/◌, ◌%◌, eqb}
use Prim.Native.Char.{code}
use Prim.Native.String.{String, [] as empty, ◌∷◌ as ◌then◌}

-- the bytes of words
abbrev pub letters : String → List ℕ
letters empty = []
letters (c then s) = code c ∷ letters s

-- the last digit of n
abbrev pub digit : ℕ → ℕ
digit n = 48 + n % 10

-- a blank where nothing is left of the number
abbrev pub digit_or_blank : ℕ → ℕ
digit_or_blank n = cond (eqb n 0) 32 (digit n)

-- what is left of a number, in w places: blanks in front, and nothing but blanks for 0
unfoldable pub figures : ℕ → ℕ → List ℕ
figures zero n = []
figures (suc w) n = figures w (n / 10) ++ (digit_or_blank n ∷ [])

-- a number at the right of w places; its last digit stands even for 0
abbrev pub number : ℕ → ℕ → List ℕ
number w n = figures (w - 1) (n / 10) ++ (digit n ∷ [])

-- the same with two blanks in front, so that columns never touch
abbrev pub column : ℕ → ℕ → List ℕ
column w n = letters "  " ++ number w n
