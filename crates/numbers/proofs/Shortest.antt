-- No reading gives a number from fewer bits than are written for it.
use mathlib.Core.Path.{◌≡◌, refl}
use mathlib.Core.Bool.{Bool, true, false, cond}
use Prim.Native.Nat.{ℕ, zero, suc, ◌+◌, ◌*◌, ◌^◌, ◌≤◌, ◌<◌}
use native.Mathlib.Nat.{mul-le-mul_right}
use native.Mathlib.Omega.{arith}
use lib.Dec.{eqb, ltb}
use lib.ListN.{length, length-append}
use lib.Pow.{pow-add, pow_mono}
use borrow.Author.Tests.{ltb-false}
use Rattle.kernel.specs.declared.Window.TheVariants.{Open}
use Rattle.kernel.proofs.Bits.{length-bits_of}
use Rattle.kernel.proofs.Ends.{Ends, end_give, end_choose, end_need, end_field, end_map}
use Rattle.numbers.proofs.Trip.{fewest_enough}
use Rattle.numbers.specs.Values.{bytes_from, latm_get_value, fewest, value_bits, groups_from, groups_after, group_bits}

-- ---- as many bytes as hold the number are enough

pub fewest_least : (v k : ℕ) → v < 2 ^ (8 * (k + 1)) → fewest v ≤ k
fewest_least v k h = go (ltb v 256) refl (ltb v 65536) refl (ltb v 16777216) refl k h
  where
    go : (x : Bool) → ltb v 256 ≡ x → (y : Bool) → ltb v 65536 ≡ y → (z : Bool) → ltb v 16777216 ≡ z
        → (k : ℕ) → v < 2 ^ (8 * (k + 1)) → cond x 0 (cond y 1 (cond z 2 3)) ≤ k
    go true _ y _ z _ k h = omega arith
    go false e y _ z _ zero h = absurd (omega (arith, ltb-false v 256 e))
    go false _ true _ z _ (suc k) h = omega arith
    go false _ false e z _ (suc zero) h = absurd (omega (arith, ltb-false v 65536 e))
    go false _ false _ true _ (suc (suc k)) h = omega arith
    go false _ false _ false e (suc (suc zero)) h = absurd (omega (arith, ltb-false v 16777216 e))
    go false _ false _ false _ (suc (suc (suc k))) h = omega arith

-- one byte more: b behind a, where n bytes follow
byte_more : (a b n v : ℕ) → b < 256 → v < (256 * a + b + 1) * 2 ^ (8 * n) → v < (a + 1) * 2 ^ (8 * suc n)
byte_more a b n v h l =
    let e : 8 * suc n ≡ 8 + 8 * n = omega arith in
    let p : (a + 1) * (256 * 2 ^ (8 * n)) ≡ (256 * a + 256) * 2 ^ (8 * n) = omega arith in
    let q : (256 * a + b + 1) * 2 ^ (8 * n) ≤ (256 * a + 256) * 2 ^ (8 * n) =
    mul-le-mul_right (2 ^ (8 * n)) (omega arith) in
    rw (e, pow-add 2 8 (8 * n), p) (omega arith)

-- ---- variable values

-- n bytes more of the number a
bytes_end : (n a p : ℕ) → Ends (λ v q. (q ≡ p + 8 * n) × (v < (a + 1) * 2 ^ (8 * n))) (bytes_from n a) p
unfolding bytes_from
bytes_end zero a p = end_give (omega arith, omega arith)
bytes_end (suc n) a p =
    end_field Open 8 _ λ b l _. end_map (λ v q (e, h). (omega arith, byte_more a b n v l h))
    (bytes_end n (256 * a + b) (p + 8))

value_length : (v : ℕ) → length (value_bits v) ≡ 2 + 8 * (fewest v + 1)
unfolding value_bits
value_length v = simp (length-append, length-bits_of) refl

-- a larger number has no fewer
pub value_more : (v w : ℕ) → v ≤ w → w < 2 ^ 32 → length (value_bits v) ≤ length (value_bits w)
value_more v w h l =
    let b : v < 2 ^ (8 * (fewest w + 1)) = omega (arith, (fewest_enough w l).1) in
    omega (arith, value_length v, value_length w, fewest_least v (fewest w) b)

four_bytes : (k v : ℕ) → k < 4 → v < 2 ^ (8 * (k + 1)) → v < 2 ^ 32
four_bytes k v h l =
    let b : 8 * (k + 1) ≤ 32 = omega arith in let e : 2 ^ (8 * (k + 1)) ≤ 2 ^ 32 = pow_mono b in omega arith

pub value_end : (p : ℕ) → Ends (λ v q. (p + length (value_bits v) ≤ q) × (v < 2 ^ 32)) latm_get_value p
unfolding latm_get_value
value_end p =
    end_field Open 2 _ λ k l _.
    end_map (λ v q (e, h). let b : v
    < 2 ^ (8 * (k + 1)) = omega arith in (omega (arith, value_length v, fewest_least v k b), four_bytes k v l b))
    (bytes_end (k + 1) 0 (p + 2))

-- ---- groups

-- so many groups more of the number a
record Groups (p a v q : ℕ) : Type 0 where
  number : ℕ
  moved : q ≡ p + 9 * number
  below : v < (a + 1) * 2 ^ (8 * number)

no_group : (p a : ℕ) → Groups p a a p
no_group p a = record { number = 0; moved = omega arith; below = omega arith }

-- one before them
group_more : (p a b : ℕ) {v q : ℕ} → b < 256 → Groups (p + 1 + 8) (256 * a + b) v q → Groups p a v q
group_more p a b {v} h g =
    record {
      number = suc g.number;
      moved = omega (arith, g.moved);
      below = byte_more a b g.number v h
          g.below;
    }

record SomeGroups (p a v q : ℕ) : Type 0 where
  first : ℕ
  byte : first < 256
  more : Groups (p + 1 + 8) (256 * a + first) v q

some_end : (n a p : ℕ) → ((b q : ℕ) → Ends (Groups q b) (groups_from n b) q)
    → Ends (SomeGroups p a) (groups_from (suc n) a) p
unfolding groups_from
some_end n a p rest =
    end_field Open 1 _ λ more _ _. end_need _ 14 1 λ _. end_field Open 8 _ λ b l _.
    end_choose (eqb more 1) (λ _.
    end_map (λ v q g. record { first = b; byte = l; more = g }) (rest (256 * a + b) (p + 1 + 8)))
    (λ _. end_give (record { first = b; byte = l; more = no_group (p + 1 + 8) (256 * a + b) }))

groups_end_from : (n a p : ℕ) → Ends (Groups p a) (groups_from n a) p
unfolding groups_from
groups_end_from zero a p = end_give (no_group p a)
groups_end_from (suc n) a p =
    end_map (λ v q g. group_more p a g.first g.byte g.more) (some_end n a p (λ b q. groups_end_from n b q))

groups_length : (k v : ℕ) → length (groups_after k v) ≡ 9 * (k + 1)
unfolding groups_after
groups_length zero v = simp (length-append, length-bits_of) refl
groups_length (suc k) v = simp (length-append, length-bits_of) (omega (arith, groups_length k v))

pub groups_end : (p : ℕ) → Ends (λ v q. p + length (group_bits v) ≤ q) (groups_from 4 0) p
groups_end p = end_map (λ v q g.
    let n = g.more.number in
    let e : 8 * suc n ≡ 8 * (n + 1) = omega arith in
    let l : v < 2 ^ (8 * (n + 1)) = omega (arith, rw e at (byte_more 0 g.first n v g.byte g.more.below)) in
    omega (arith, g.more.moved, groups_length (fewest v) v, fewest_least v n l))
    (some_end 3 0 p (λ b q. groups_end_from 3 b q))
