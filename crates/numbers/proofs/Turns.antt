-- One turn of the productions that loop: what is left of n bytes or groups behind i of them.
use mathlib.Core.Path.{◌≡◌, refl}
use mathlib.Core.Bool.{◌||◌}
use mathlib.Core.List.{◌++◌}
use Prim.Native.Nat.{ℕ, zero, suc, ◌+◌, ◌*◌, ◌-◌, ◌/◌, ◌^◌, ◌≤◌, ◌<◌}
use native.Mathlib.Omega.{arith}
use lib.Dec.{leb, eqb}
use lib.Pow.{pow-add, pow_mono}
use Rattle.kernel.specs.declared.Window.TheVariants.{Open}
use Rattle.kernel.specs.Bits.{bits_of}
use Rattle.kernel.specs.Reading.{Reading, give, field, choose, need, ◌>>=◌, ◌>>◌}
use Rattle.kernel.proofs.Steps.{fields}
use Rattle.kernel.proofs.Puts.{puts}
use Rattle.numbers.specs.Values.{bytes_from, groups_from, groups_after}

-- one more than any number of i bytes
unfoldable pub numbers_of : ℕ → ℕ
numbers_of i = 2 ^ (8 * i)

pub numbers_of_none : numbers_of 0 ≡ 1
unfolding numbers_of
numbers_of_none = refl

pub numbers_of_more : (i : ℕ) → numbers_of (i + 1) ≡ 256 * numbers_of i
unfolding numbers_of
numbers_of_more i = let k : 8 * (i + 1) ≡ 8 * i + 8 = omega arith in rw k (omega (arith, pow-add 2 (8 * i) 8))

pub numbers_of_four : (i : ℕ) → i < 4 → numbers_of i ≤ 16777216
unfolding numbers_of
numbers_of_four i h = pow_mono {i = 8 * i} {j = 24} (omega arith)

module _ (n i v : ℕ) where
  unfoldable pub bytes_left : Reading ℕ
  bytes_left = bytes_from (n - i) v

  pub bytes_start : i ≡ 0 → bytes_left ≡ bytes_from n v
  unfolding bytes_left
  bytes_start h = let k : n - i ≡ n = omega arith in rw k

  pub bytes_end : n ≤ i → bytes_left ≡ give v
  unfolding bytes_left bytes_from
  bytes_end h = let k : n - i ≡ 0 = omega arith in rw k

  unfoldable pub groups_left : Reading ℕ
  groups_left = groups_from (n - i) v

  pub groups_start : i ≡ 0 → groups_left ≡ groups_from n v
  unfolding groups_left
  groups_start h = let k : n - i ≡ n = omega arith in rw k

  pub groups_end : n ≤ i → groups_left ≡ give v
  unfolding groups_left groups_from
  groups_end h = let k : n - i ≡ 0 = omega arith in rw k

pub bytes_turn : (n i v : ℕ) → i < n → bytes_left n i v ≡ (field Open 8 >>= λ b. bytes_left n (i + 1) (256 * v + b))
unfolding bytes_left bytes_from
bytes_turn n i v h = let k : n - i ≡ suc (n - (i + 1)) = omega arith in rw k

pub groups_turn : (n i v : ℕ) → i < n
    → groups_left n i v
    ≡ (field Open 1 >>= λ m. need (eqb m 0 || leb 1 (n - (i + 1))) 14 1
    >> (field Open 8 >>= λ b. choose (eqb m 1) (groups_left n (i + 1) (256 * v + b)) (give (256 * v + b))))
unfolding groups_left groups_from
groups_turn n i v h = let k : n - i ≡ suc (n - (i + 1)) = omega arith in rw k

pub ruleset byte_by_byte =
    (fields, numbers_of_none, numbers_of_more, numbers_of_four, bytes_start, bytes_turn, bytes_end)

pub ruleset group_by_group =
    (fields, numbers_of_none, numbers_of_more, numbers_of_four, groups_start, groups_turn, groups_end)

-- a byte more
pub byte_more : (v b m : ℕ) → v < 2 ^ m → b < 2 ^ 8 → 256 * v + b < 2 ^ (m + 8)
byte_more v b m h g = omega (arith, pow-add 2 m 8)

-- groups put one after the other, and the last
pub groups_more : (k v : ℕ) → 0 < k
    → groups_after k v ≡ bits_of 1 1 ++ (bits_of 8 (v / 2 ^ (8 * k)) ++ groups_after (k - 1) v)
unfolding groups_after
groups_more zero v h = absurd (omega arith)
groups_more (suc k) v h = let e : suc k - 1 ≡ k = omega arith in rw e

pub groups_last : (k v : ℕ) → k ≡ 0 → groups_after k v ≡ bits_of 1 0 ++ bits_of 8 v
unfolding groups_after
groups_last k v h = rw h

pub ruleset groups_put = (puts, groups_more, groups_last)
