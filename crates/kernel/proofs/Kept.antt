-- What a tree keeps to: R of the number of every refusal, P of every answer, each field being below 2 ^ its width, and
-- of an element J of the content and kind of every item.
use mathlib.Core.Path.{◌≡◌, refl}
use mathlib.Core.Bool.{Bool, true, false, cond}
use mathlib.Core.List.{List, [], ◌∷◌}
use Prim.Native.Nat.{ℕ, ◌+◌, ◌*◌, ◌<◌, ◌^◌, min}
use lib.Dec.{ltb, eqb}
use lib.ListN.{length}
use Rattle.kernel.specs.declared.Window.{Window}
use Rattle.kernel.specs.Bits.{value_at}
use Rattle.kernel.specs.Reading.{Reading, give, refuse, refuse_after, field_then, pass_then, here_then, ◌>>=◌, ◌>>◌}
use Rattle.kernel.specs.Reading.{field, pass, here, choose, need, Outcome, gave, refused, Fit, fits, short}
use Rattle.kernel.specs.Reading.{passes, fit, on_fit, run}
use Rattle.kernel.specs.Element.{Content, fields, passed, Item, Element, done, part, over, spot, follow}
use Rattle.kernel.specs.Element.{Passage, came, fell, with_item, walk, Answer, accepted, rejected, ended, items_of}
use Rattle.kernel.proofs.Values.{value_lt}
use Rattle.kernel.proofs.Induction.{walk_by}

pub chosen : {A : Type 0} (P : A → Type 0) (t : Bool) (a b : A) → P a → P b → P (cond t a b)
chosen P true a b p q = p
chosen P false a b p q = q

-- any answer
abbrev pub Any : {A : Type 0} → A → Type 0
Any a = Unit {0}

-- ---- readings

unfoldable pub Keeps : {A : Type 0} → (ℕ → Type 0) → (A → Type 0) → Reading A → Type 0
Keeps R P (give a) = P a
Keeps R P (refuse m b) = R m
Keeps R P (refuse_after win w m b) = R m
Keeps R P (field_then win w k) = (v : ℕ) → v < 2 ^ w → Keeps R P (k v)
Keeps R P (pass_then win w k) = Keeps R P k
Keeps R P (here_then k) = (p : ℕ) → Keeps R P (k p)

module _ {A B : Type 0} (R : ℕ → Type 0) (P : A → Type 0) (Q : B → Type 0) where
  keeps_bind : (m : Reading A) (f : A → Reading B) → Keeps R P m → ((a : A) → P a → Keeps R Q (f a))
      → Keeps R Q (m >>= f)
  unfolding Keeps ◌>>=◌
  keeps_bind (give a) f p q = q a p
  keeps_bind (refuse m b) f p q = p
  keeps_bind (refuse_after win w m b) f p q = p
  keeps_bind (field_then win w k) f p q = λ v l. keeps_bind (k v) f (p v l) q
  keeps_bind (pass_then win w k) f p q = keeps_bind k f p q
  keeps_bind (here_then k) f p q = λ v. keeps_bind (k v) f (p v) q

module _ {A : Type 0} (R : ℕ → Type 0) (P Q : A → Type 0) where
  pub keeps_map : (m : Reading A) → Keeps R P m → ((a : A) → P a → Q a) → Keeps R Q m
  unfolding Keeps
  keeps_map (give a) p q = q a p
  keeps_map (refuse m b) p q = p
  keeps_map (refuse_after win w m b) p q = p
  keeps_map (field_then win w k) p q = λ v l. keeps_map (k v) (p v l) q
  keeps_map (pass_then win w k) p q = keeps_map k p q
  keeps_map (here_then k) p q = λ v. keeps_map (k v) (p v) q

-- the same as a record, so that a production's steps need no more than their names
pub record Kept {A : Type 0} (R : ℕ → Type 0) (P : A → Type 0) (m : Reading A) : Type 0 where
  pub is : Keeps R P m

module _ {R : ℕ → Type 0} where
  module _ {A : Type 0} {P : A → Type 0} where
    pub gives : {a : A} → P a → Kept R P (give a)
    unfolding Keeps
    gives p = record { is = p }

    pub refuses : {m b : ℕ} → R m → Kept R P (refuse m b)
    unfolding Keeps
    refuses p = record { is = p }

    pub refuses_after : {win : Window} {w m b : ℕ} → R m → Kept R P (refuse_after win w m b)
    unfolding Keeps
    refuses_after p = record { is = p }

    pub either : (t : Bool) {x y : Reading A} → (t ≡ true → Kept R P x) → (t ≡ false → Kept R P y)
        → Kept R P (choose t x y)
    unfolding choose
    either true p q = p refl
    either false p q = q refl

    pub so : {Q : A → Type 0} {m : Reading A} → Kept R P m → ((a : A) → P a → Q a) → Kept R Q m
    so {Q} {m} p q = record { is = keeps_map R P Q m p.is q }

  pub a_field : (win : Window) (w : ℕ) → Kept R (λ v. v < 2 ^ w) (field win w)
  unfolding Keeps field
  a_field win w = record { is = λ v l. l }

  pub a_pass : (win : Window) (w : ℕ) → Kept R Any (pass win w)
  unfolding Keeps pass
  a_pass win w = record { is = tt }

  pub a_place : Kept R Any here
  unfolding Keeps here
  a_place = record { is = λ p. tt }

  pub a_need : (t : Bool) (m b : ℕ) → R m → Kept R (λ _. t ≡ true) (need t m b)
  unfolding Keeps need
  a_need true m b p = record { is = refl }
  a_need false m b p = record { is = p }

  -- a step, and what follows its answer
  module _ {A B : Type 0} {P : A → Type 0} {Q : B → Type 0} where
    pub on : {m : Reading A} (f : A → Reading B) → Kept R P m → ((a : A) → P a → Kept R Q (f a)) → Kept R Q (m >>= f)
    on f p q = record { is = keeps_bind R P Q _ f p.is (λ a h. (q a h).is) }

    pub then : {m : Reading A} {r : Reading B} → Kept R P m → ((a : A) → P a → Kept R Q r) → Kept R Q (m >> r)
    unfolding ◌>>◌
    then p q = record { is = keeps_bind R P Q _ _ p.is (λ a h. (q a h).is) }

-- ---- runs

-- what is asked for fits, or runs out by 3 or by 10
module _ (R : ℕ → Type 0) where
  abbrev pub FitKept : Fit → Type 0
  FitKept fits = Unit {0}
  FitKept (short m) = R m

  pub fit_kept : R 3 → R 10 → (win : Window) (bits e : ℕ) → FitKept (fit win bits e)
  unfolding fit
  fit_kept three ten win bits e = chosen FitKept (passes win e) _ _ ten (chosen FitKept (ltb bits e) _ _ three tt)

module _ {A : Type 0} (R : ℕ → Type 0) (P : A → Type 0) where
  abbrev pub OutcomeKept : Outcome A → Type 0
  OutcomeKept (gave a at n) = P a
  OutcomeKept (refused r) = R r.refusal.number

  pub out_fit : (x : Fit) (at n : ℕ) (o : Outcome A) → FitKept R x → OutcomeKept o → OutcomeKept (on_fit x at n o)
  unfolding on_fit
  out_fit fits at n o f p = p
  out_fit (short m) at n o f p = f

  module _ (three : R 3) (ten : R 10) (s : List ℕ) where
    run_keeps : (m : Reading A) (at n : ℕ) → Keeps R P m → OutcomeKept (run s m at n)
    unfolding Keeps run
    run_keeps (give a) at n p = p
    run_keeps (refuse m b) at n p = p
    run_keeps (refuse_after win w m b) at n p =
        out_fit (fit win (8 * length s) (at + w)) at n _ (fit_kept R three ten win (8 * length s) (at + w)) p
    run_keeps (field_then win w k) at n p =
        out_fit (fit win (8 * length s) (at + w)) at n _ (fit_kept R three ten win (8 * length s) (at + w))
        (run_keeps (k (value_at s at w)) (at + w) (n + min w 1) (p (value_at s at w) (value_lt s at w)))
    run_keeps (pass_then win w k) at n p =
        out_fit (fit win (8 * length s) (at + w)) at n _ (fit_kept R three ten win (8 * length s) (at + w))
        (run_keeps k (at + w) n p)
    run_keeps (here_then k) at n p = run_keeps (k at) at n (p at)

    pub run_kept : {m : Reading A} (at n : ℕ) → Kept R P m → OutcomeKept (run s m at n)
    run_kept {m} at n p = run_keeps m at n p.is

-- ---- elements

-- J of the content and kind of each item
unfoldable pub Each : (Content → ℕ → Type 0) → List Item → Type 0
Each J [] = Unit {0}
Each J (it ∷ its) = J it.content it.kind × Each J its

-- a tree that refuses by R, makes items of J and answers by P
unfoldable pub KeepsAll : {A : Type 0} → (ℕ → Type 0) → (Content → ℕ → Type 0) → (A → Type 0) → Element A → Type 0
KeepsAll R J P (done a) = P a
KeepsAll R J P (part B kind m f) = J fields kind × Keeps R (λ b. KeepsAll R J P (f b)) m
KeepsAll R J P (over c kind stream w e) = J (passed c) kind × KeepsAll R J P e
KeepsAll R J P (spot f) = (p : ℕ) → KeepsAll R J P (f p)

module _ {A B : Type 0} (R : ℕ → Type 0) (J : Content → ℕ → Type 0) (P : A → Type 0) (Q : B → Type 0) where
  pub keeps_follow : (e : Element A) (g : A → Element B) → KeepsAll R J P e → ((a : A) → P a → KeepsAll R J Q (g a))
      → KeepsAll R J Q (follow e g)
  unfolding KeepsAll follow
  keeps_follow (done a) g p q = q a p
  keeps_follow (part C kind m f) g p q = (
    p.0,
    keeps_map R (λ b. KeepsAll R J P (f b)) (λ b. KeepsAll R J Q (follow (f b) g)) m p.1
        (λ b h. keeps_follow (f b) g h q),
  )
  keeps_follow (over c kind stream w e) g p q = (p.0, keeps_follow e g p.1 q)
  keeps_follow (spot f) g p q = λ v. keeps_follow (f v) g (p v) q

-- an answer
abbrev pub AnswerKept : {A : Type 0} → (ℕ → Type 0) → (A → Type 0) → Answer A → Type 0
AnswerKept R P (accepted a its n) = P a
AnswerKept R P (rejected r its) = R r.refusal.number

module _ {A : Type 0} (R : ℕ → Type 0) (J : Content → ℕ → Type 0) (P : A → Type 0) where
  abbrev pub PassageKept : Passage A → Type 0
  PassageKept (came a its at n) = P a × Each J its
  PassageKept (fell r its) = R r.refusal.number × Each J its

  pub kept_item : (it : Item) (x : Passage A) → J it.content it.kind → PassageKept x → PassageKept (with_item it x)
  unfolding with_item Each
  kept_item it (came a its at n) j p = (p.0, (j, p.1))
  kept_item it (fell r its) j p = (p.0, (j, p.1))

  module _ (three : R 3) (ten : R 10) (s : List ℕ) where
    pub walk_keeps : (e : Element A) (at n : ℕ) → KeepsAll R J P e → PassageKept (walk s e at n)
    unfolding KeepsAll Each
    walk_keeps = walk_by s (λ e at n x. KeepsAll R J P e → PassageKept x) (record {
      on_done = λ a at n p. (p, tt);
      on_gave = λ kind m f at n b at' n' q again p.
          kept_item _ (walk s (f b) at' n') p.0 (again (rw q at (run_keeps R _ three ten s m at n p.1)));
      on_refused = λ kind m f at n r q p. (rw q at (run_keeps R _ three ten s m at n p.1), tt);
      on_over = λ c kind stream w e at n l again p. kept_item _ (walk s e (at + w) n) p.0 (again p.1);
      on_short = λ c kind stream w e at n l p. (three, tt);
      on_spot = λ f at n again p. again (p at);
    })

  pub told_end : R 15 → (bits : ℕ) (x : Passage A) → PassageKept x → AnswerKept R P (ended bits x)
  told_end fifteen bits (came a its at n) p = chosen (AnswerKept R P) (eqb at bits) _ _ p.0 fifteen
  told_end fifteen bits (fell r its) p = p.0

  pub each_end : (bits : ℕ) (x : Passage A) → PassageKept x → Each J (items_of (ended bits x))
  each_end bits (came a its at n) p = chosen (λ x. Each J (items_of x)) (eqb at bits) _ _ p.1 p.1
  each_end bits (fell r its) p = p.1

-- what follows from R of every refusal
pub kept_so : {A : Type 0} (R S : ℕ → Type 0) (J : Content → ℕ → Type 0) (P : A → Type 0) (x : Passage A)
    → ((m : ℕ) → R m → S m) → PassageKept R J P x
    → PassageKept S J P x
kept_so R S J P (came a its at n) f p = p
kept_so R S J P (fell r its) f p = (f r.refusal.number p.0, p.1)
