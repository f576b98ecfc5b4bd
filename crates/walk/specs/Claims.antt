-- Each promise allows one answer, and one content of what is lent. proofs/Theorems.antt has the theorem of each.
use Rattle.std.specs.Prelude.{◌≡◌, Bool, List, ℕ, Option, Result}
use Rattle.kernel.specs.declared.Cursor.{Cursor}
use Rattle.kernel.specs.declared.Read.{Read}
use Rattle.kernel.specs.declared.Refusal.{Refusal}
use Rattle.element.specs.declared.Accepted.{Accepted}
use Rattle.walk.specs.declared.Plan.{Plan}
use Rattle.walk.specs.Promises.{LengthsPromise, FinishPromise}

-- of the lengths of a subframe,
abbrev pub LengthsOnce : Type 0
LengthsOnce = (slots : List (Option ℕ)) (s : List ℕ) (c : Cursor) (x y : Result (Read (List ℕ)) Refusal)
    → LengthsPromise slots s c x → LengthsPromise slots s c y → x ≡ y

-- and of all that stands behind the configuration
abbrev pub FinishOnce : Type 0
FinishOnce = (sent : Bool) (s : List ℕ) (plan : Plan) (c : Cursor) (x y : Result Accepted Refusal)
    (map map₁ map₂ : List ℕ)
    → FinishPromise sent s plan c map x map₁ → FinishPromise sent s plan c map y map₂ → (x ≡ y) × (map₁ ≡ map₂)
