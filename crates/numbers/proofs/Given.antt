-- What is read of a number is as wide as its bytes, and refused by a number of which R holds: any R, if 14 is one.
use mathlib.Core.Path.{◌≡◌}
use Prim.Native.Nat.{ℕ, zero, suc, ◌+◌, ◌*◌, ◌^◌, ◌<◌, ◌≤◌}
use native.Mathlib.Nat.{add-zero}
use native.Mathlib.Omega.{arith}
use lib.Pow.{pow_mono}
use Rattle.kernel.proofs.Kept.{Kept, gives, either, so, a_field, a_need, on, then}
use Rattle.numbers.specs.Values.{bytes_from, latm_get_value, groups_from}
use Rattle.numbers.proofs.Turns.{byte_more}

-- of w bits
abbrev pub Wide : ℕ → ℕ → Type 0
Wide w v = v < 2 ^ w

wider : (v w u : ℕ) → w ≤ u → Wide w v → Wide u v
wider v w u l h = omega (arith, pow_mono {i = w} {j = u} l)

byte_wide : (v b m n : ℕ) → Wide m v → Wide 8 b → Wide (m + 8 * suc n) (256 * v + b)
byte_wide v b m n h g = wider (256 * v + b) (m + 8) (m + 8 * suc n) (omega arith) (byte_more v b m h g)

module _ {R : ℕ → Type 0} where
  bytes_from_law : (n v m : ℕ) → Wide m v → Kept R (Wide (m + 8 * n)) (bytes_from n v)
  unfolding bytes_from
  bytes_from_law zero v m h = gives (rw add-zero h)
  bytes_from_law (suc n) v m h =
      on _ (a_field _ _) λ b l. so (bytes_from_law n (256 * v + b) (m + 8) (byte_more v b m h l)) λ x k. let e : m + 8
      + 8 * n ≡ m + 8 * suc n = omega arith in rw e at k

  pub get_value : Kept R (Wide 32) latm_get_value
  unfolding latm_get_value
  get_value =
      on _ (a_field _ _) λ k l. so (bytes_from_law (k + 1) 0 0 (omega arith)) λ x h.
      wider x (0 + 8 * (k + 1)) 32 (omega arith) h

  pub groups_from_law : R 14 → (n v m : ℕ) → Wide m v → Kept R (Wide (m + 8 * n)) (groups_from n v)
  unfolding groups_from
  groups_from_law r zero v m h = gives (rw add-zero h)
  groups_from_law r (suc n) v m h =
      on _ (a_field _ _) λ more _. then (a_need _ 14 _ r) λ _ _. on _ (a_field _ _) λ b l.
      either _
      (λ _. so (groups_from_law r n (256 * v + b) (m + 8) (byte_more v b m h l)) λ x k. let e : m + 8 + 8 * n
      ≡ m + 8 * suc n = omega arith in rw e at k)
      (λ _. gives (byte_wide v b m n h l))
