-- What putting asks for, and what it promises.
use Rattle.std.specs.Prelude.{◌≡◌, Bool, List, ℕ, ◌+◌, ◌≤◌}
use Rattle.kernel.specs.declared.BitWriter.{BitWriter}
use Rattle.kernel.specs.Bits.{Put}

-- n bits more are so few that no sum of a writer can wrap
abbrev pub Room : ℕ → BitWriter → Type 0
Room n w = w.at + n ≤ 1000000

-- w' writes the bytes that w writes, and has put the bits b behind what w put, at most n
pub record Puts (w : BitWriter) (b : List Bool) (n : ℕ) (w' : BitWriter) : Type 0 where
  pub same : w'.out.ghost_name ≡ w.out.ghost_name
  pub most : w'.at ≤ w.at + n
  pub put : Put w.out.now w.at b w'.out.now w'.at
