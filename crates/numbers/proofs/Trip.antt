-- What is written of a number reads back: LatmGetValue, and the groups of version 0.
use mathlib.Core.Path.{◌≡◌, refl, subst}
use mathlib.Core.Bool.{Bool, true, false, cond}
use Prim.Native.Nat.{ℕ, zero, suc, ◌+◌, ◌-◌, ◌*◌, ◌/◌, ◌%◌, ◌^◌, ◌<◌}
use native.Mathlib.Nat.{suc-add, mod-eq_of_lt}
use native.Mathlib.Omega.{arith}
use lib.Dec.{ltb}
use lib.Pow.{pow-add, mod-pow-add}
use borrow.Author.Tests.{ltb-true, le-leb}
use Rattle.kernel.specs.declared.Window.TheVariants.{Open}
use Rattle.kernel.specs.Bits.{bits_of}
use Rattle.kernel.specs.Trip.{Reads}
use Rattle.kernel.proofs.Bits.{bits_split}
use Rattle.kernel.proofs.Trip.{reads_give, reads_on, reads_yes, reads_no, reads_need, reads_low, reads_low_last}
use Rattle.numbers.specs.Values.{bytes_from, latm_get_value, fewest, value_bits, groups_from, groups_after, group_bits}

-- one byte more of a number: v % q of 8 + n bits, where q = 2 ^ n
byte_more : (acc q b l : ℕ) → (256 * acc + b) * q + l ≡ acc * (256 * q) + (b * q + l)
byte_more acc q b l = omega arith

more : (n acc v : ℕ) → (256 * acc + v / 2 ^ n % 256) * 2 ^ n + v % 2 ^ n ≡ acc * 2 ^ (8 + n) + v % 2 ^ (8 + n)
more n acc v = rw (mod-pow-add v 8 n, pow-add 2 8 n) (byte_more acc (2 ^ n) (v / 2 ^ n % 256) (v % 2 ^ n))

bytes_trip : (at n acc v : ℕ) → Reads Open at (bytes_from n acc) (bits_of (8 * n) v) (acc * 2 ^ (8 * n) + v % 2 ^ (8 * n))
unfolding bytes_from bits_of
bytes_trip at zero acc v = let e : acc * 1 + v % 1 ≡ acc = omega arith in rw e reads_give
bytes_trip at (suc n) acc v =
    let e : 8 * suc n ≡ 8 + 8 * n = omega arith in
    rw (e, bits_split 8 (8 * n) (8 + 8 * n) v refl, ← more (8 * n) acc v)
    (reads_low 8 (v / 2 ^ (8 * n)) _ (bytes_trip (at + 8) n (256 * acc + v / 2 ^ (8 * n) % 256) v))

pub fewest_enough : (v : ℕ) → v < 2 ^ 32 → (fewest v < 4) × (v < 2 ^ (8 * (fewest v + 1)))
fewest_enough v h = go (ltb v 256) refl (ltb v 65536) refl (ltb v 16777216) refl
  where
    go : (x : Bool) → ltb v 256 ≡ x → (y : Bool) → ltb v 65536 ≡ y → (z : Bool) → ltb v 16777216 ≡ z
        → (cond x 0 (cond y 1 (cond z 2 3)) < 4) × (v < 2 ^ (8 * (cond x 0 (cond y 1 (cond z 2 3)) + 1)))
    go true e y _ z _ = omega (arith, ltb-true v 256 e)
    go false _ true e z _ = omega (arith, ltb-true v 65536 e)
    go false _ false _ true e = omega (arith, ltb-true v 16777216 e)
    go false _ false _ false _ = omega arith

whole : (v n : ℕ) → v < 2 ^ n → 0 * 2 ^ n + v % 2 ^ n ≡ v
whole v n h = rw (mod-eq_of_lt h) (omega arith)

pub value_trip : (at v : ℕ) → v < 2 ^ 32 → Reads Open at latm_get_value (value_bits v) v
unfolding latm_get_value value_bits
value_trip at v h =
    let f = fewest_enough v h in
    reads_on 2 (fewest v) _ f.0
    (subst (λ (z : ℕ). Reads Open (at + 2) (bytes_from (fewest v + 1) 0) (bits_of (8 * (fewest v + 1)) v) z)
    (whole v (8 * (fewest v + 1)) f.1)
    (bytes_trip (at + 2) (fewest v + 1) 0 v))

-- k groups that are followed by another, where so many and j more may stand
groups_from_law : (at k j acc v : ℕ)
    → Reads Open at (groups_from (suc (k + j)) acc) (groups_after k v) (acc * 2 ^ (8 * suc k) + v % 2 ^ (8 * suc k))
unfolding groups_from groups_after
groups_from_law at zero j acc v =
    let e : acc * 256 + v % 256 ≡ 256 * acc + v % 256 = omega arith in
    reads_on 1 0 _ (omega arith) (reads_need 14 1 refl (reads_low_last 8 v _ (reads_no _ refl (rw e reads_give))))
groups_from_law at (suc k) j acc v =
    let e : 8 * suc (suc k) ≡ 8 + 8 * suc k = omega arith in
    rw (e, ← more (8 * suc k) acc v, suc-add k j)
    (reads_on 1 1 _ (omega arith)
    (reads_need 14 1 (le-leb 1 (suc (k + j)) (omega arith)) (reads_low 8 (v / 2 ^ (8 * suc k)) _ (reads_yes _ refl
    (groups_from_law (at + 1 + 8) k j (256 * acc + v / 2 ^ (8 * suc k) % 256) v)))))

pub groups_trip : (at v : ℕ) → v < 2 ^ 32 → Reads Open at (groups_from 4 0) (group_bits v) v
groups_trip at v h =
    let f = fewest_enough v h in
    let e : suc (fewest v + (3 - fewest v)) ≡ 4 = omega arith in
    let n : fewest v + 1 ≡ suc (fewest v) = omega arith in
    rw e at (rw (whole v (8 * suc (fewest v)) (rw n at f.1)) at (groups_from_law at (fewest v) (3 - fewest v) 0 v))
