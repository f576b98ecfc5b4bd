-- What is lent to a call is set to 7 throughout, so that it can be told whether the call left it alone.
use Rattle.std.specs.Prelude.{Bool, List, ℕ, eqb, drop, replicate}
use Rattle.std.specs.List.{list_all}

-- n of them
abbrev pub sevens : ℕ → List ℕ
sevens n = replicate n 7

-- all are 7 from a place on
abbrev pub sevens_from : List ℕ → ℕ → Bool
sevens_from s from = list_all (λ n. eqb n 7) (drop from s)
