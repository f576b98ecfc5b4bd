-- Laws of a row's channels: the configuration's by ranges, and where the output has two in their place.
use mathlib.Core.Path.{◌≡◌, refl}
use mathlib.Core.Bool.{Bool, true, false, cond, ◌&&◌}
use mathlib.Core.Logic.{◌⊎◌, inl, inr, ⊎_elim}
use Prim.Native.Nat.{ℕ, zero, suc, ◌≤◌}
use native.Mathlib.Omega.{arith}
use lib.IntN.{ℤ, pos, negsuc}
use lib.Dec.{eqb}
use borrow.Author.Tests.{eqb-true}
use Rattle.row.specs.Row.{is_one, ps_of, channels_at, output_channels}
use Rattle.row.specs.Claims.{ChannelsDiffer}

pub few_channels : (c : ℕ) → c ≤ 6 → c ≡ channels_at c
few_channels zero h = refl
few_channels (suc zero) h = refl
few_channels (suc (suc zero)) h = refl
few_channels (suc (suc (suc zero))) h = refl
few_channels (suc (suc (suc (suc zero)))) h = refl
few_channels (suc (suc (suc (suc (suc zero))))) h = refl
few_channels (suc (suc (suc (suc (suc (suc zero)))))) h = refl
few_channels (suc (suc (suc (suc (suc (suc (suc n))))))) h = omega arith

-- ---- of the output, PS being `ps` over channel configuration c

one_is : (z : ℤ) → is_one z ≡ true → z ≡ pos 1
one_is (pos n) h = rw (eqb-true n 1 h)
one_is (negsuc n) h = let z : false ≡ true = h in cc

module _ (ps : ℤ) (c : ℕ) where
  abbrev OverOne : Type 0
  OverOne = (ps ≡ pos 1) × (c ≡ 1)

  abbrev Own : Type 0
  Own = output_channels ps c ≡ channels_at c

  one_of_both : OverOne ⊎ Own
  one_of_both = go (is_one ps) (eqb c 1) refl refl
    where
      go : (a b : Bool) → is_one ps ≡ a → eqb c 1 ≡ b → OverOne ⊎ (cond (a && b) 2 (channels_at c) ≡ channels_at c)
      go true true e q = inl (one_is ps e, eqb-true c 1 q)
      go true false e q = inr refl
      go false b e q = inr refl

  not_own : ¬ Own → OverOne
  not_own n = ⊎_elim (λ h. h) (λ h. absurd (n h)) one_of_both

  pub two_channels : OverOne → output_channels ps c ≡ 2
  two_channels h = rw (h.0, h.1)

pub channels_told : ChannelsDiffer
channels_told p l s =
    let ps = ps_of s.config.form in
    let c = s.config.channels in
    record {
      differ = record { then = not_own ps c; when = λ h. rw (two_channels ps c h, h.1) (λ e. omega arith) };
      two = λ e q. two_channels ps c (e, q);
    }
