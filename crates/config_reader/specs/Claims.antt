-- What is claimed of the readers' promises. proofs/Theorems.antt has the theorem of each.
use Rattle.std.specs.Prelude.{◌≡◌, List, ℕ, Result}
use Rattle.kernel.specs.declared.Cursor.{Cursor}
use Rattle.kernel.specs.declared.Read.{Read}
use Rattle.kernel.specs.declared.Refusal.{Refusal}
use Rattle.kernel.specs.Reading.{Reading}
use Rattle.kernel.specs.Answer.{told}
use Rattle.kernel.specs.Promises.{ToldOnce}
use Rattle.records.specs.declared.Record.{Record}
use Rattle.records.specs.Table.{table_of}
use Rattle.config.specs.declared.Head.{Head}
use Rattle.config.specs.declared.Ending.{Ending}
use Rattle.config.specs.declared.Places.{Places}
use Rattle.config_reader.specs.Answer.{table_after}

-- each promise allows one answer: of the head,
abbrev pub HeadedOnce : Type 0
HeadedOnce = ToldOnce Head

-- and of the ending;
abbrev pub EndedOnce : Type 0
EndedOnce = ToldOnce Ending

-- and where a table is lent, one answer and one content of it, whatever is read
abbrev pub TabledOnce : {A : Type 0} → (A → List (List ℕ)) → Type 0
TabledOnce {A} of =
    (s : List ℕ) (m : Reading A) (c : Cursor) (x y : Result (Read A) Refusal) (t t₁ t₂ : List (List ℕ))
    → x ≡ told s m c → t₁ ≡ table_after of x t → y ≡ told s m c → t₂ ≡ table_after of y t → (x ≡ y) × (t₁ ≡ t₂)

-- of the programs 0 to `last`,
abbrev pub ProgramsOnce : Type 0
ProgramsOnce = (last : ℕ) → TabledOnce (λ (g : Places). table_of g.layers last)

-- and of a whole StreamMuxConfig
abbrev pub MuxOnce : Type 0
MuxOnce = TabledOnce (λ (r : Record). table_of r.layers r.programs)
