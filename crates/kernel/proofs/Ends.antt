-- Where a reading ends: what holds of every answer that it can give, and of the bit that it then has reached.
use mathlib.Core.Path.{◌≡◌, refl}
use mathlib.Core.Bool.{Bool, true, false, cond}
use mathlib.Core.List.{List}
use Prim.Native.Nat.{ℕ, ◌+◌, ◌*◌, ◌^◌, ◌<◌, min}
use native.Mathlib.Omega.{arith}
use lib.Dec.{ltb}
use lib.ListN.{length}
use borrow.Author.Tests.{ltb-false}
use Rattle.kernel.specs.declared.Window.{Window}
use Rattle.kernel.specs.declared.Window.TheVariants.{Open, UpTo}
use Rattle.kernel.specs.Bits.{value_at}
use Rattle.kernel.specs.Reading.{Reading, give, refuse, refuse_after, field_then, pass_then, here_then, field, pass}
use Rattle.kernel.specs.Reading.{here, choose, need, ◌>>=◌, ◌>>◌, Outcome, gave, refused, fits, short, fit, run}
use Rattle.kernel.specs.Trip.{InWindow}
use Rattle.kernel.proofs.Run.{by_fit}
use Rattle.kernel.proofs.Values.{value_lt}

-- from bit p, whatever the bits are
unfoldable pub AllEnd : {A : Type 0} → (A → ℕ → Type 0) → Reading A → ℕ → Type 0
AllEnd Q (give a) p = Q a p
AllEnd Q (refuse m b) p = Unit {0}
AllEnd Q (refuse_after win w m b) p = Unit {0}
AllEnd Q (field_then win w k) p = (v : ℕ) → v < 2 ^ w → InWindow win (p + w) → AllEnd Q (k v) (p + w)
AllEnd Q (pass_then win w k) p = AllEnd Q k (p + w)
AllEnd Q (here_then k) p = AllEnd Q (k p) p

-- a record, so that antt finds what it is of
pub record Ends {A : Type 0} (Q : A → ℕ → Type 0) (m : Reading A) (p : ℕ) : Type 0 where
  pub all : AllEnd Q m p

abbrev pub Ended : {A : Type 0} → (A → ℕ → Type 0) → Outcome A → Type 0
Ended Q (gave a q n) = Q a q
Ended Q (refused r) = Unit {0}

fit_window : (win : Window) (bits e : ℕ) → fit win bits e ≡ fits → InWindow win e
unfolding fit
fit_window Open bits e h = tt
fit_window (UpTo x) bits e h = go (ltb x e) refl h
  where
    go : (t : Bool) → ltb x e ≡ t → cond t (short 10) (cond (ltb bits e) (short 3) fits) ≡ fits → InWindow (UpTo x) e
    go true t h = absurd (let z : ◌≡◌ {A = ℕ} 0 1 = cc in omega arith)
    go false t h = ltb-false x e t

module _ {A : Type 0} (Q : A → ℕ → Type 0) where
  runs : (s : List ℕ) (m : Reading A) (p n : ℕ) → AllEnd Q m p → Ended Q (run s m p n)
  unfolding AllEnd run
  runs s (give a) p n h = h
  runs s (refuse m b) p n h = tt
  runs s (refuse_after win w m b) p n h = by_fit (Ended Q) (fit win (8 * length s) (p + w)) p n _ (λ _. tt) (λ _. tt)
  runs s (field_then win w k) p n h =
      by_fit (Ended Q) (fit win (8 * length s) (p + w)) p n _
      (λ f. runs s (k (value_at s p w)) (p + w) (n + min w 1)
      (h (value_at s p w) (value_lt s p w) (fit_window win (8 * length s) (p + w) f))) (λ _. tt)
  runs s (pass_then win w k) p n h =
      by_fit (Ended Q) (fit win (8 * length s) (p + w)) p n _ (λ f. runs s k (p + w) n h) (λ _. tt)
  runs s (here_then k) p n h = runs s (k p) p n h

  -- so of every run
  pub run_ends : (s : List ℕ) (m : Reading A) (p n : ℕ) → Ends Q m p → Ended Q (run s m p n)
  run_ends s m p n h = runs s m p n h.all

module _ {A : Type 0} {Q : A → ℕ → Type 0} where
  pub end_give : {a : A} {p : ℕ} → Q a p → Ends Q (give a) p
  unfolding AllEnd
  end_give h = record { all = h }

  pub end_refuse : {m b p : ℕ} → Ends Q (refuse m b) p
  unfolding AllEnd
  end_refuse = record { all = tt }

  pub end_refuse_after : {win : Window} {w m b p : ℕ} → Ends Q (refuse_after win w m b) p
  unfolding AllEnd
  end_refuse_after = record { all = tt }

  pub end_choose : (t : Bool) {x y : Reading A} {p : ℕ} → (t ≡ true → Ends Q x p) → (t ≡ false → Ends Q y p)
      → Ends Q (choose t x y) p
  unfolding choose
  end_choose true h g = h refl
  end_choose false h g = g refl

  pub end_need : (t : Bool) (m b : ℕ) {k : Reading A} {p : ℕ} → (t ≡ true → Ends Q k p) → Ends Q (need t m b >> k) p
  unfolding need ◌>>◌ ◌>>=◌ AllEnd
  end_need true m b h = h refl
  end_need false m b h = record { all = tt }

  pub end_here : (f : ℕ → Reading A) {p : ℕ} → Ends Q (f p) p → Ends Q (here >>= f) p
  unfolding here ◌>>=◌ AllEnd
  end_here f h = record { all = h.all }

  pub end_pass : (win : Window) (w : ℕ) {k : Reading A} {p : ℕ} → Ends Q k (p + w) → Ends Q (pass win w >> k) p
  unfolding pass ◌>>◌ ◌>>=◌ AllEnd
  end_pass win w h = record { all = h.all }

  pub end_field : (win : Window) (w : ℕ) (f : ℕ → Reading A) {p : ℕ}
      → ((v : ℕ) → v < 2 ^ w → InWindow win (p + w) → Ends Q (f v) (p + w)) → Ends Q (field win w >>= f) p
  unfolding field ◌>>=◌ AllEnd
  end_field win w f h = record { all = λ v l i. (h v l i).all }

-- a field that is the last
pub end_last : {Q : ℕ → ℕ → Type 0} (win : Window) (w : ℕ) {p : ℕ}
    → ((v : ℕ) → v < 2 ^ w → InWindow win (p + w) → Q v (p + w)) → Ends Q (field win w) p
unfolding field AllEnd
end_last win w h = record { all = h }

module _ {A B : Type 0} (P : A → ℕ → Type 0) (Q : B → ℕ → Type 0) (f : A → Reading B) where
  binds : (m : Reading A) (p : ℕ) → AllEnd P m p → ((a : A) (q : ℕ) → P a q → AllEnd Q (f a) q) → AllEnd Q (m >>= f) p
  unfolding AllEnd ◌>>=◌
  binds (give a) p h g = g a p h
  binds (refuse m b) p h g = tt
  binds (refuse_after win w m b) p h g = tt
  binds (field_then win w k) p h g = λ v l i. binds (k v) (p + w) (h v l i) g
  binds (pass_then win w k) p h g = binds k (p + w) h g
  binds (here_then k) p h g = binds (k p) p h g

-- one reading after another
pub end_on : {A B : Type 0} {P : A → ℕ → Type 0} {Q : B → ℕ → Type 0} {m : Reading A} {p : ℕ} (f : A → Reading B)
    → Ends P m p → ((a : A) (q : ℕ) → P a q → Ends Q (f a) q) → Ends Q (m >>= f) p
end_on {P = P} {Q = Q} {m = m} {p = p} f h g = record { all = binds P Q f m p h.all (λ a q x. (g a q x).all) }

module _ {A : Type 0} (P Q : A → ℕ → Type 0) where
  maps : (m : Reading A) (p : ℕ) → AllEnd P m p → ((a : A) (q : ℕ) → P a q → Q a q) → AllEnd Q m p
  unfolding AllEnd
  maps (give a) p h g = g a p h
  maps (refuse m b) p h g = tt
  maps (refuse_after win w m b) p h g = tt
  maps (field_then win w k) p h g = λ v l i. maps (k v) (p + w) (h v l i) g
  maps (pass_then win w k) p h g = maps k (p + w) h g
  maps (here_then k) p h g = maps (k p) p h g

-- what follows from it
pub end_map : {A : Type 0} {P Q : A → ℕ → Type 0} {m : Reading A} {p : ℕ} → ((a : A) (q : ℕ) → P a q → Q a q)
    → Ends P m p → Ends Q m p
end_map {P = P} {Q = Q} {m = m} {p = p} g h = record { all = maps P Q m p h.all g }
