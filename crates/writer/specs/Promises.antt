-- The promise that is more than one equation, under a name that its functions and the claim that it allows one result
-- share.
use Rattle.std.specs.Prelude.{◌≡◌, List, ℕ, length, Result}
use Rattle.kernel.specs.declared.Refusal.{Refusal}
use Rattle.writer.specs.Written.{Sent}
use Rattle.writer.specs.Write.{written_of, out_after}

-- `write`, with the output before and after it
abbrev pub WritePromise : Sent → List ℕ → Result ℕ Refusal → List ℕ → Type 0
WritePromise w out r out' = (r ≡ written_of w (length out)) × (out' ≡ out_after w out r)
