-- One thing exactly where another.
pub record Exactly (A B : Type 0) : Type 0 where
  pub then : A → B
  pub when : B → A
