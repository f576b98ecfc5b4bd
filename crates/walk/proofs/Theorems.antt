-- The theorem of each claim of specs/Claims.antt.
use Rattle.std.proofs.Common.{◌≡◌, refl, ap, sym, ◌∙◌, ℕ, ◌-◌, List, ◌++◌, length, take, drop, replicate, Result, Ok, Err, IfOk}
use Rattle.std.proofs.Math.ListN.{take-append-drop}
use Rattle.kernel.specs.declared.Read.{Read}
use Rattle.kernel.specs.declared.Refusal.{Refusal}
use Rattle.walk.specs.Parts.{taken}
use Rattle.walk.specs.Claims.{LengthsOnce, FinishOnce}

-- widths are fixed by the first k of them and the zeros behind those
abbrev behind_zeros : ℕ → Result (Read (List ℕ)) Refusal → Result (Read (List ℕ)) Refusal
behind_zeros k (Ok r) = Ok (record { value = r.value ++ replicate (16 - k) 0; next = r.next })
behind_zeros k (Err x) = Err x

back : (k : ℕ) (r : Result (Read (List ℕ)) Refusal) → IfOk r (λ ws. drop k ws.value ≡ replicate (16 - k) 0)
    → behind_zeros k (taken k r) ≡ r
back k (Ok r) h =
    ap (λ (ws : List ℕ). Ok (record { value = ws; next = r.next }))
    (ap (λ (z : List ℕ). take k r.value ++ z) (sym h) ∙ take-append-drop k r.value)
back k (Err x) h = refl

pub lengths_once : LengthsOnce
lengths_once slots s c x y p q =
    sym (back (length slots) x p.1) ∙ ap (behind_zeros (length slots)) (p.0 ∙ sym q.0) ∙ back (length slots) y q.1

pub finish_once : FinishOnce
finish_once sent s plan c x y map map₁ map₂ p q = (p.0 ∙ sym q.0, p.1 ∙ sym q.1)
