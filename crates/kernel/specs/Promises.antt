-- What it is that a promise allows one result. What reads promises that its answer is what is `told`; what puts and lays
-- promises by `Put` and `Stored`.
use Rattle.std.specs.Prelude.{◌≡◌, List, ℕ, Result}
use Rattle.kernel.specs.declared.BitWriter.{BitWriter}
use Rattle.kernel.specs.declared.Cursor.{Cursor}
use Rattle.kernel.specs.declared.Read.{Read}
use Rattle.kernel.specs.declared.Refusal.{Refusal}
use Rattle.kernel.specs.Bits.{Bytes}
use Rattle.kernel.specs.Reading.{Reading}
use Rattle.kernel.specs.Answer.{told}

-- what is told of a reading is one answer, whatever is read
abbrev pub ToldOnce : Type 0 → Type 0
ToldOnce A = (s : List ℕ) (m : Reading A) (c : Cursor) (x y : Result (Read A) Refusal) → x ≡ told s m c → y ≡ told s m c
    → x ≡ y

-- A contract is what a caller learns of the arguments, the answer, and what is then seen of them, at the lifetimes of
-- the call.
module _ {K : Type 0} {A R E : K → Type 0} (learnt : (k : K) → A k → R k → E k → Type 0) where
  -- it allows one of what `seen` picks
  abbrev pub AllowsOne : {X : Type 0} → ((k : K) → R k → E k → X) → Type 0
  AllowsOne seen = (k : K) (a : A k) (x y : R k) (e f : E k) → learnt k a x e → learnt k a y f → seen k x e ≡ seen k y f

  -- one answer, and one content of what is lent
  abbrev pub AllowsOneOutcome : {X : Type 0} → ((k : K) → E k → X) → Type 0
  AllowsOneOutcome lent =
      (k : K) (a : A k) (x y : R k) (e f : E k) → learnt k a x e → learnt k a y f → (x ≡ y) × (lent k e ≡ lent k f)

  -- the same where it is the bits of lent bytes that are promised
  abbrev pub AllowsOneOfBytes : ((k : K) → E k → List ℕ) → Type 0
  AllowsOneOfBytes lent =
      (k : K) (a : A k) (x y : R k) (e f : E k) → Bytes (lent k e) → Bytes (lent k f) → learnt k a x e
      → learnt k a y f → (x ≡ y) × (lent k e ≡ lent k f)

  -- the same where it is the bits of a writer's bytes that are promised: one bit reached, and one content of its bytes
  abbrev pub AllowsOneOfWriter : ((k : K) → E k → BitWriter) → Type 0
  AllowsOneOfWriter lent =
      (k : K) (a : A k) (x y : R k) (e f : E k) → Bytes (lent k e).out.now → Bytes (lent k f).out.now → learnt k a x e
      → learnt k a y f → ((lent k e).at ≡ (lent k f).at) × ((lent k e).out.now ≡ (lent k f).out.now)
