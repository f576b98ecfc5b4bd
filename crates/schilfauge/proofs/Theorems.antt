-- The theorem of each claim of specs/Claims.antt.
use mathlib.Core.Path.{◌≡◌, refl, sym, ◌∙◌}
use mathlib.Core.Bool.{Bool, true, false, cond}
use mathlib.Core.List.{List}
use Prim.Native.Nat.{ℕ}
use lib.ListN.{length}
use Rattle.std.specs.Prelude.{Some}
use Rattle.kernel.specs.Element.{Answer, accepted, rejected}
use Rattle.records.specs.declared.Record.{Record}
use Rattle.records.specs.Table.{table_of}
use Rattle.records.specs.Valid.{valid_of}
use Rattle.sync.specs.Sync.{hunt_of, framed_of}
use Rattle.element.specs.Mux.{Applied}
use Rattle.element.specs.Reply.{reply_with}
use Rattle.writer.specs.Write.{written_of}
use Rattle.schilfauge.specs.Lent.{held_in, held_words, answer_in, held_after, row_at}
use Rattle.kernel.proofs.Kept.{AnswerKept}
use Rattle.element.proofs.Productions.{Applies, AppliedOk, Refuses, answered}
use Rattle.element.proofs.Theorems as element
use Rattle.schilfauge.specs.Claims.{LaidIsHeld, NextFindsHeld, RefusedIs20, RefusedIs1To15, RefusedIs16To19}
use Rattle.schilfauge.specs.Claims.{RefusedIs2Or19, HuntOnce, ReadOnce, RowOnce, WriteOnce, FrameOnce, HuntKeeps}
use Rattle.schilfauge.specs.Claims.{RowKeeps, WriteKeeps, FrameKeeps, RowRefused, RowTold, RowAbsent}
use Rattle.schilfauge.specs.Claims.{WrittenComesBack}
use Rattle.schilfauge.proofs.Numbers.{hunt_20, written_16, framed_2, found_stays, row_stays, written_stays}
use Rattle.schilfauge.proofs.Numbers.{framed_stays}
use Rattle.schilfauge.proofs.Rows.{words_there, words_absent}
use Rattle.schilfauge.proofs.Words.{held_laid}
use Rattle.schilfauge.proofs.Trip.{trip}

-- ---- words laid are found again

pub laid_is_held : LaidIsHeld
laid_is_held = held_laid

held_next : (t : Bool) (w : List ℕ) (r : Record) → Applies (held_in w) t r
    → held_in (cond t (held_words r) w) ≡ cond t (Some r) (held_in w)
held_next true w r h = held_laid r h.layers h.streams
held_next false w r h = refl

next_held : (w : List ℕ) (R : ℕ → Type 0) (x : Answer Applied) → AnswerKept R (AppliedOk (held_in w)) x
    → held_in (held_after w x) ≡ (reply_with (held_in w) x).held
next_held w R (accepted a items n) h = held_next a.sent w a.config h
next_held w R (rejected r items) h = refl

pub next_finds_held : NextFindsHeld
next_finds_held s w room = next_held w (Refuses s (held_in w)) (answer_in s w room) (answered s (held_in w) room)

-- ---- a refusal can be told from what is accepted

pub refused_is_20 : RefusedIs20
refused_is_20 s start x h = rw h (rw h at (hunt_20 s start))

pub refused_is_1_to_15 : RefusedIs1To15
refused_is_1_to_15 s w room r items h = rw h (element.refusal_is_numbered s (held_in w) room r items h)

pub refused_is_16_to_19 : RefusedIs16To19
refused_is_16_to_19 w room x h = rw h (rw h at (written_16 w room))

pub refused_is_2_or_19 : RefusedIs2Or19
refused_is_2_or_19 s room x h = rw h (rw h at (framed_2 s room))

-- ---- a refusal leaves all as it stood

pub hunt_keeps : HuntKeeps
hunt_keeps s start found x found' p n = p.1 ∙ found_stays found (hunt_of s start) (λ e. n (p.0 ∙ e))

pub row_keeps : RowKeeps
row_keeps r p l row x row' q n =
    q.1 ∙ row_stays (valid_of r) row (row_at r (table_of r.layers r.programs) p l) (λ e. n (q.0 ∙ e))

pub write_keeps : WriteKeeps
write_keeps w out size x out' size' p n =
    let k = written_stays w out size (written_of w (length out)) (λ e. n (p.0 ∙ e)) in (p.1.0 ∙ k.0, p.1.1 ∙ k.1)

pub frame_keeps : FrameKeeps
frame_keeps s out size x out' size' p n =
    let k = framed_stays s out size (framed_of s (length out)) (λ e. n (p.0 ∙ e)) in (p.1.0 ∙ k.0, p.1.1 ∙ k.1)

-- ---- what is told of a row

pub row_refused : RowRefused
row_refused r p l row x row' q = q.0

pub row_told : RowTold
row_told r p l row x row' q v h = q.1 ∙ rw v (words_there r p l h)

pub row_absent : RowAbsent
row_absent r p l row x row' q v h = q.1 ∙ rw v (words_absent r p l h)

-- ---- what was written comes back

pub written_comes_back : WrittenComesBack
written_comes_back words send lengths payload other out size x out' size' l h p e =
    rw (p.1.0, p.1.1) (trip words l h send lengths payload other out size (sym p.0 ∙ e))

-- ---- one result

pub hunt_once : HuntOnce
hunt_once s start found found₁ found₂ x y p q = (p.0 ∙ sym q.0, p.1 ∙ sym q.1)

pub read_once : ReadOnce
read_once s w map w₁ w₂ map₁ map₂ told₁ told₂ x y p q =
    (p.0 ∙ sym q.0, p.1.0 ∙ sym q.1.0, p.1.1.0 ∙ sym q.1.1.0, p.1.1.1 ∙ sym q.1.1.1)

pub row_once : RowOnce
row_once r p l row row₁ row₂ x y a b = (a.0 ∙ sym b.0, a.1 ∙ sym b.1)

pub write_once : WriteOnce
write_once w out out₁ out₂ size size₁ size₂ x y p q =
    (p.0 ∙ sym q.0, p.1.0 ∙ sym q.1.0, p.1.1 ∙ sym q.1.1)

pub frame_once : FrameOnce
frame_once s out out₁ out₂ size size₁ size₂ x y p q =
    (p.0 ∙ sym q.0, p.1.0 ∙ sym q.1.0, p.1.1 ∙ sym q.1.1)
