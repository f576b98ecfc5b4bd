-- A number of 32 bits is the same number in 64 with a sign.
use mathlib.Core.Path.{◌≡◌, sym, ap, subst, ◌∙◌}
use Prim.Native.Nat.{ℕ, ◌<◌}
use native.Mathlib.Omega.{arith}
use lib.IntN.{ℤ, pos}
use mir.Syntax.{w32, w64}
use mir.Val.{SFits, to_z, of_z}
use mir.Facts.{sfits_widen, to_z-of_z, to_z_pos}

pub positive : (n : ℕ) → n < 4294967296 → to_z w64 n ≡ pos n
positive n small = to_z_pos w64 {n = n} (omega arith)

module _ {z : ℤ} (fits : SFits w32 z) where
  pub widens : SFits w64 (to_z w32 (of_z w32 z))
  widens = subst (SFits w64) (sym (to_z-of_z fits)) (sfits_widen tt fits)

  pub widened : to_z w64 (of_z w64 (to_z w32 (of_z w32 z))) ≡ z
  widened = ap (λ (y : ℤ). to_z w64 (of_z w64 y)) (to_z-of_z fits) ∙ to_z-of_z {w = w64} (sfits_widen tt fits)
