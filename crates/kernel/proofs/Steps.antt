-- What a production comes to, step by step: each step is an equation of what is told.
use Rattle.std.proofs.Common.{◌≡◌, refl, ap, ◌∙◌, ℕ, ◌+◌, ◌-◌, ◌*◌, ◌≤◌, Bool, true, false, cond, List, length, ltb, Result, Ok, Err, min, arith}
use borrow.Author.Tests.{le-ltb}
use Rattle.std.proofs.lemmas.Bool.Decides.{nat_tests}
use Rattle.kernel.specs.declared.Window.{Window}
use Rattle.kernel.specs.declared.Refusal.{Refusal}
use Rattle.kernel.specs.declared.Cursor.{Cursor}
use Rattle.kernel.specs.declared.Read.{Read}
use Rattle.kernel.specs.Bits.{value_at}
use Rattle.kernel.specs.Reading.{Reading, give, refuse, refuse_after, field, pass, here, choose, need, ◌>>=◌, ◌>>◌}
use Rattle.kernel.specs.Reading.{passes, Outcome, gave, refused, Fit, fits, short, fit, on_fit, run, after, Stands}
use Rattle.kernel.specs.Reading.{refused_at}
use Rattle.kernel.specs.declared.Window.TheVariants.{Open}
use Rattle.kernel.specs.Answer.{answer, told, reached}
use Rattle.kernel.proofs.Run.{run_bind, run_few}
use Rattle.kernel.proofs.Values.{value_lt}

-- what follows an answer
abbrev pub behind : {A B : Type 0} → Result (Read A) Refusal → (Read A → Result (Read B) Refusal) → Result (Read B) Refusal
behind (Ok r) f = f r
behind (Err x) f = Err x

answer_after : {A B : Type 0} (o : Outcome A) (f : A → ℕ → ℕ → Outcome B)
    → answer (after o f) ≡ behind (answer o) (λ r. answer (f r.value r.next.at r.next.fields))
unfolding after
answer_after (gave a at n) f = refl
answer_after (refused r) f = refl

module _ {A : Type 0} (s : List ℕ) (c : Cursor) where
  pub told_give : (a : A) → told s (give a) c ≡ Ok (record { value = a; next = c })
  unfolding told run
  told_give a = refl

  pub told_refuse : (m b : ℕ) → told {A = A} s (refuse m b) c ≡ Err (refused_at m (c.at - b) c.fields)
  unfolding told run
  told_refuse m b = refl

  pub told_choose : (b : Bool) (x y : Reading A) → told s (choose b x y) c ≡ cond b (told s x c) (told s y c)
  unfolding choose
  told_choose true x y = refl
  told_choose false x y = refl

  pub told_need : (b : Bool) (m w : ℕ) (k : Reading A)
      → told s (need b m w >> k) c ≡ cond b (told s k c) (Err (refused_at m (c.at - w) c.fields))
  unfolding told run need ◌>>◌ ◌>>=◌
  told_need true m w k = refl
  told_need false m w k = refl

  pub told_here : (f : ℕ → Reading A) → told s (here >>= f) c ≡ told s (f c.at) c
  unfolding told run here ◌>>=◌
  told_here f = refl

pub told_bind : {A B : Type 0} (s : List ℕ) (c : Cursor) (m : Reading A) (f : A → Reading B)
    → told s (m >>= f) c ≡ behind (told s m c) (λ r. told s (f r.value) r.next)
unfolding told
told_bind s c m f = ap answer (run_bind s f m c.at c.fields) ∙ answer_after (run s m c.at c.fields) _

on_fits : {A : Type 0} (p q : Bool) (at n : ℕ) (o : Outcome A)
    → answer (on_fit (cond p (short 10) (cond q (short 3) fits)) at n o)
    ≡ cond p (Err (refused_at 10 at n)) (cond q (Err (refused_at 3 at n)) (answer o))
unfolding on_fit
on_fits true q at n o = refl
on_fits false true at n o = refl
on_fits false false at n o = refl

-- a refusal given once more bits were there
on_fit_as : {A B : Type 0} (x : Fit) (at n : ℕ) (o : Outcome A) (p : Outcome B)
    (f : Read A → Result (Read B) Refusal) → answer p ≡ behind (answer o) f
    → answer (on_fit x at n p) ≡ behind (answer (on_fit x at n o)) f
unfolding on_fit
on_fit_as fits at n o p f h = h
on_fit_as (short m) at n o p f h = refl

-- a field: 10 before 3 before its value
module _ (s : List ℕ) (c : Cursor) where
  pub told_field : (win : Window) (w : ℕ) → told s (field win w) c
      ≡ cond (passes win (c.at + w)) (Err (refused_at 10 c.at c.fields))
      (cond (ltb (8 * length s) (c.at + w)) (Err (refused_at 3 c.at c.fields))
      (Ok (record { value = value_at s c.at w; next = record { at = c.at + w; fields = c.fields + min w 1 } })))
  unfolding told run field fit
  told_field win w = on_fits (passes win (c.at + w)) (ltb (8 * length s) (c.at + w)) c.at c.fields _

  pub told_pass : (w : ℕ) → told s (pass Open w) c
      ≡ cond (ltb (8 * length s) (c.at + w)) (Err (refused_at 3 c.at c.fields))
      (Ok (record { value = tt; next = record { at = c.at + w; fields = c.fields } }))
  unfolding told run pass fit
  told_pass w = on_fits false (ltb (8 * length s) (c.at + w)) c.at c.fields _

  pub told_refuse_after : {A : Type 0} (win : Window) (w m b : ℕ) → told {A = A} s (refuse_after win w m b) c
      ≡ behind (told s (field win w) c) (λ r. Err (refused_at m (c.at - b) r.next.fields))
  unfolding told run field
  told_refuse_after win w m b = on_fit_as (fit win (8 * length s) (c.at + w)) c.at c.fields _ _ _ refl

-- a field that stands there whole, without a window, is not refused
pub fetched_some : (s : List ℕ) (c : Cursor) (w : ℕ) {x : Refusal} → c.at + w ≤ 8 * length s
    → Err x ≡ told s (field Open w) c → ⊥
fetched_some s c w h e = let q = rw (told_field s c Open w, le-ltb (8 * length s) (c.at + w) h) at e in cc

-- what follows bits that were passed over
abbrev pub past : {A : Type 0} → Result Cursor Refusal → (Cursor → Result (Read A) Refusal) → Result (Read A) Refusal
past (Ok c) f = f c
past (Err x) f = Err x

pub told_passed : {A : Type 0} (s : List ℕ) (c : Cursor) (w : ℕ) (k : Reading A)
    → told s (pass Open w >> k) c ≡ past (reached (told s (pass Open w) c)) (λ c'. told s k c')
unfolding ◌>>◌
told_passed s c w k = told_bind s c (pass Open w) (λ _. k) ∙ go (told s (pass Open w) c)
  where
    go : (r : Result (Read (Unit {0})) Refusal) → behind r (λ r. told s k r.next) ≡ past (reached r) (λ c'. told s k c')
    go (Ok r) = refl
    go (Err x) = refl

-- the same answer, of which it shows that a reader may stand at its cursor
abbrev pub standing : {A : Type 0} → List ℕ → Result (Read A) Refusal → Result (Read A) Refusal
standing s (Ok r) =
    let at = min r.next.at (8 * length s) in
    Ok (record { value = r.value; next = record { at = at; fields = min r.next.fields at } })
standing s (Err x) = Err x

-- a cursor that a reader may stand at leads to another
pub told_stands : {A : Type 0} (s : List ℕ) (m : Reading A) (c : Cursor) → Stands s c
    → told s m c ≡ standing s (told s m c)
unfolding told
told_stands {A} s m c h = go (run s m c.at c.fields) refl
  where
    go : (o : Outcome A) → run s m c.at c.fields ≡ o → answer o ≡ standing s (answer o)
    go (gave a at n) q =
        let f = rw q at (run_few s m c.at c.fields (omega arith)) in
        let e : min at (8 * length s) ≡ at = omega arith in
        let g : min n at ≡ n = omega arith in
        rw (e, g)
    go (refused x) q = refl

pub ruleset steps = (told_bind, told_give, told_refuse, told_choose, told_need, told_here, told_passed, told_stands, nat_tests)

pub ruleset fields = (steps, told_field, told_refuse_after, value_lt)
