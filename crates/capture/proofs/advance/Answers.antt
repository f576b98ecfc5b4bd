-- `capture::advance` meets its contract.
use Rattle.std.proofs.Common.{◌≡◌, ◌+◌, ◌≤◌, sym, ◌∙◌, ℕ, List, length, Some, Result, Ok, Err, arith}
use Rattle.std.specs.Result.{result_ok}
use Rattle.kernel.specs.declared.Refusal.{Refusal}
use Rattle.sync.specs.declared.Hunted.{Hunted}
use Rattle.sync.specs.Sync.{hunt_of}
use Rattle.sync.proofs.Theorems.{element_is_inside}
use Rattle.capture.proofs.advance.Goals as goal

ok_is : {h : Hunted} (r : Result Hunted Refusal) → Some h ≡ result_ok r → r ≡ Ok h
ok_is (Ok x) e = cc
ok_is (Err x) e = cc

-- where the frame that was found lies
ends : (s : List ℕ) (at : ℕ) (f : Hunted) {r : Result Hunted Refusal} → r ≡ hunt_of s at → Some f ≡ result_ok r
    → (f.place + 3 + f.size ≤ length s) × (length s ≤ 65536)
ends s at f {r} e o = let i = element_is_inside s at f.place f.size (sym e ∙ ok_is r o) in (i.2, i.3)

pub overflow_add-result : goal.overflow_add-result
overflow_add-result c = omega (arith, ends _ _ _ c.hunt.ensures c.in_ok-found.ensures.value)

pub overflow_add-result-2 : goal.overflow_add-result-2
overflow_add-result-2 c = omega (arith, ends _ _ _ c.hunt.ensures c.in_ok-found.ensures.value)
