-- What is gone from a reader.
use Rattle.std.specs.Prelude.{Option, List, ℕ}
use Rattle.std.specs.Io.KnownBytes.{Consumes}

-- some bytes were taken, and no more is known of them
pub record Taken (before after : Option (List ℕ)) : Type 0 where
  pub bytes : List ℕ
  pub gone : Consumes before after bytes
