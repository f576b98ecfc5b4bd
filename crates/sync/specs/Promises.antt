-- The promise that is more than one equation, under a name that its function and the claim that it allows one result
-- share.
use Rattle.std.specs.Prelude.{◌≡◌, Result, List, ℕ, length}
use Rattle.kernel.specs.declared.Refusal.{Refusal}
use Rattle.sync.specs.Sync.{framed_of, out_after}

-- `frame`, with the output before and after it
abbrev pub FramePromise : List ℕ → List ℕ → Result ℕ Refusal → List ℕ → Type 0
FramePromise el out r out' = (r ≡ framed_of el (length out)) × (out' ≡ out_after el out r)
