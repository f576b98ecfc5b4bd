-- What the numbers answered say.
use mathlib.Core.Path.{◌≡◌, refl}
use mathlib.Core.Bool.{Bool, true, false, cond, ◌||◌}
use mathlib.Core.Logic.{◌⊎◌, inl, inr}
use mathlib.Core.List.{List}
use Prim.Native.Nat.{ℕ, zero, suc, ◌+◌, ◌-◌, ◌≤◌}
use native.Mathlib.Omega.{arith}
use lib.Dec.{eqb, ltb}
use lib.ListN.{length}
use lib.IntN.{ℤ}
use Rattle.std.specs.Prelude.{Result, Ok, Err}
use Rattle.kernel.specs.declared.Refusal.{Refusal}
use Rattle.kernel.specs.Element.{Answer, accepted, rejected}
use Rattle.records.specs.Valid.{valid_of}
use Rattle.sync.specs.declared.Hunted.{Hunted}
use Rattle.sync.specs.Sync.{frame_at, first_of, hunt_of, framed_of}
use Rattle.sync.specs.Sync as sync
use Rattle.element.specs.Mux.{Applied}
use Rattle.element.specs.Reply.{verdict_of, map_after}
use Rattle.kernel.proofs.Kept.{chosen}
use Rattle.writer.specs.Written.{Sent, size_of}
use Rattle.writer.specs.Write.{fits, written_of, out_after}
use Rattle.schilfauge.specs.Lent.{number_of, found_after, held_after, told_after}

-- ---- of a refusal

abbrev pub Is20 : Result Hunted Refusal → Type 0
Is20 (Ok h) = Unit {0}
Is20 (Err x) = x.number ≡ 20

first_20 : (s : List ℕ) (p k : ℕ) → Is20 (first_of s p k)
unfolding first_of
first_20 s p zero = refl
first_20 s p (suc k) = chosen Is20 (frame_at s p) _ _ tt (first_20 s (p + 1) k)

pub hunt_20 : (s : List ℕ) (start : ℕ) → Is20 (hunt_of s start)
hunt_20 s start = chosen Is20 (ltb 65536 (length s)) _ _ refl (first_20 s start (length s - start))

abbrev pub Is16To19 : Result ℕ Refusal → Type 0
Is16To19 (Ok n) = Unit {0}
Is16To19 (Err x) = (16 ≤ x.number) × (x.number ≤ 19)

pub written_16 : (w : Sent) (room : ℕ) → Is16To19 (written_of w room)
written_16 w room =
    chosen Is16To19 (valid_of w.config) _ _
    (chosen Is16To19 (fits w) _ _
    (chosen Is16To19 (ltb 8191 (size_of w)) _ _ (omega arith, omega arith)
    (chosen Is16To19 (ltb room (size_of w)) _ _ (omega arith, omega arith) tt))
    (omega arith, omega arith))
    (omega arith, omega arith)

abbrev pub Is2Or19 : Result ℕ Refusal → Type 0
Is2Or19 (Ok n) = Unit {0}
Is2Or19 (Err x) = (x.number ≡ 2) ⊎ (x.number ≡ 19)

pub framed_2 : (s : List ℕ) (room : ℕ) → Is2Or19 (framed_of s room)
framed_2 s room =
    chosen Is2Or19 (eqb (length s) 0
    || ltb 8191 (length s)) _ _ (inl refl) (chosen Is2Or19 (ltb room (3 + length s)) _ _ (inr refl) tt)

-- ---- where it is not 0, all is as it stood

pub found_stays : (found : List ℕ) (h : Result Hunted Refusal) → ¬ (number_of h ≡ 0) → found_after found h ≡ found
found_stays found (Ok h) n = absurd (n refl)
found_stays found (Err x) n = refl

pub held_stays : (w map : List ℕ) (z : Answer Applied) → ¬ (number_of (verdict_of z) ≡ 0)
    → (held_after w z ≡ w) × (map_after map z ≡ map)
held_stays w map (accepted a items k) n = absurd (n refl)
held_stays w map (rejected r items) n = (refl, refl)

pub row_stays : (t : Bool) (row row' : List ℤ) → ¬ (◌≡◌ {A = ℕ} (cond t 0 16) 0) → cond t row' row ≡ row
row_stays true row row' n = absurd (n refl)
row_stays false row row' n = refl

pub written_stays : (w : Sent) (out : List ℕ) (size : ℕ) (z : Result ℕ Refusal) → ¬ (number_of z ≡ 0)
    → (out_after w out z ≡ out) × (told_after size z ≡ size)
written_stays w out size (Ok k) n = absurd (n refl)
written_stays w out size (Err x) n = (refl, refl)

pub framed_stays : (s out : List ℕ) (size : ℕ) (z : Result ℕ Refusal) → ¬ (number_of z ≡ 0)
    → (sync.out_after s out z ≡ out) × (told_after size z ≡ size)
framed_stays s out size (Ok k) n = absurd (n refl)
framed_stays s out size (Err x) n = (refl, refl)

-- ---- where it is 0, something was written

pub done_0 : (size : ℕ) (z : Result ℕ Refusal) → Is16To19 z → number_of z ≡ 0 → z ≡ Ok (told_after size z)
done_0 size (Ok n) h e = refl
done_0 size (Err x) h e = absurd (omega arith)
