-- The theorem of each claim of specs/Claims.antt.
use Rattle.std.proofs.Common.{List, ℕ, sym, ap, ◌∙◌}
use Rattle.kernel.proofs.Theorems.{told_once}
use Rattle.config.specs.declared.Head.{Head}
use Rattle.config.specs.declared.Ending.{Ending}
use Rattle.config_reader.specs.Answer.{table_after}
use Rattle.config_reader.specs.Claims.{HeadedOnce, EndedOnce, TabledOnce, ProgramsOnce, MuxOnce}

pub headed_once : HeadedOnce
headed_once = told_once Head

pub ended_once : EndedOnce
ended_once = told_once Ending

tabled_once : {A : Type 0} (of : A → List (List ℕ)) → TabledOnce of
tabled_once {A} of s m c x y t t₁ t₂ p h q k =
    let e = told_once A s m c x y p q in (e, h ∙ ap (λ r. table_after of r t) e ∙ sym k)

pub programs_once : ProgramsOnce
programs_once last = tabled_once _

pub mux_once : MuxOnce
mux_once = tabled_once _
