-- The groups of version 0 are at most four: the bound of their production is never met.
use mathlib.Core.Path.{◌≡◌, refl, sym, ◌∙◌, subst}
use mathlib.Core.Bool.{Bool, true, false, ◌||◌}
use mathlib.Core.List.{List}
use Prim.Native.Nat.{ℕ, zero, suc, ◌+◌, ◌*◌, ◌-◌, ◌<◌, ◌≤◌}
use native.Mathlib.Omega.{arith}
use lib.Dec.{ltb, eqb, leb}
use lib.ListN.{length}
use borrow.Author.Tests.{ltb-true, ltb-false, eqb-true, eqb-false, leb-true, leb-false, ne_eqb}
use Rattle.kernel.specs.declared.Window.TheVariants.{Open}
use Rattle.kernel.specs.Bits.{value_at}
use Rattle.kernel.specs.Reading.{Reading, give, field, choose, need, ◌>>=◌, ◌>>◌, gave, refused, stop, run}
use Rattle.kernel.proofs.Run.{field_in, field_out}
use Rattle.kernel.proofs.Values.{value_lt}
use Rattle.kernel.proofs.Tests.{either, neither}
use Rattle.numbers.specs.Values.{groups_from}
use Rattle.numbers.specs.Claims.{groups_value, Continued, Grouped, ends, no_bit, no_byte, fifth, GroupsAreFour}

continued_more : (s : List ℕ) (at k : ℕ) → Continued s at k → value_at s (at + 9 * k) 1 ≡ 1
    → at + 9 * (k + 1) ≤ 8 * length s → Continued s at (suc k)
continued_more s at k c e l = record { inside = omega arith; ones = λ j h. go j h (eqb j k) refl }
  where
    go : (j : ℕ) → j < suc k → (t : Bool) → eqb j k ≡ t → value_at s (at + 9 * j) 1 ≡ 1
    go j h true q = let z : j ≡ k = eqb-true j k q in rw z e
    go j h false q = let z : j ≡ k → ⊥ = eqb-false j k q in c.ones j (omega arith)

-- what follows a continue bit m behind the number v, where j more groups may stand, and what follows its byte
byte_then : ℕ → ℕ → (ℕ → Reading ℕ) → ℕ → Reading ℕ
byte_then m v rest b = choose (eqb m 1) (rest (256 * v + b)) (give (256 * v + b))

bit_then : ℕ → ℕ → (ℕ → Reading ℕ) → ℕ → Reading ℕ
bit_then j v rest m = need (eqb m 0 || leb 1 j) 14 1 >> (field Open 8 >>= byte_then m v rest)

-- behind k groups that are continued
module _ (s : List ℕ) (at n k j : ℕ) (rest : ℕ → Reading ℕ) (sum : k + suc j ≡ 4) (c : Continued s at k) where
  abbrev p : ℕ
  p = at + 9 * k

  abbrev m : ℕ
  m = value_at s p 1

  abbrev v : ℕ
  v = groups_value s at k

  -- the rest, where this group is continued as well
  abbrev Rest : Type 0
  Rest = m ≡ 1 → 1 ≤ j → p + 1 + 8 ≤ 8 * length s
      → Grouped s at n (run s (rest (256 * v + value_at s (p + 1) 8)) (p + 1 + 8) (n + 2 * k + 1 + 1))

  unset : (eqb m 0 || leb 1 j) ≡ true → k ≡ 3 → m ≡ 0
  unset e z = go (eqb m 0) refl
    where
      go : (t : Bool) → eqb m 0 ≡ t → m ≡ 0
      go true q = eqb-true m 0 q
      go false q = absurd (omega (arith, leb-true 1 j (either (eqb m 0) (leb 1 j) e q)))

  byte_grouped : p + 1 ≤ 8 * length s → (eqb m 0 || leb 1 j) ≡ true → Rest
      → Grouped s at n (run s (field Open 8 >>= byte_then m v rest) (p + 1) (n + 2 * k + 1))
  unfolding byte_then choose run groups_value
  byte_grouped l e r = go (ltb (8 * length s) (p + 1 + 8)) refl (eqb m 1) refl
    where
      go : (x : Bool) → ltb (8 * length s) (p + 1 + 8) ≡ x → (y : Bool) → eqb m 1 ≡ y
          → Grouped s at n (run s (field Open 8 >>= byte_then m v rest) (p + 1) (n + 2 * k + 1))
      go true h y u =
          let q : 8 * length s < p + 1 + 8 = ltb-true (8 * length s) (p + 1 + 8) h in
          no_byte k (omega arith) c (unset e) l (omega arith)
          (field_out s 8 (p + 1) (n + 2 * k + 1) (byte_then m v rest) q)
      go false h true u =
          let q : p + 1 + 8 ≤ 8 * length s = ltb-false (8 * length s) (p + 1 + 8) h in
          let z : m ≡ 1 = eqb-true m 1 u in
          let more : 1 ≤ j = leb-true 1 j (either (eqb m 0) (leb 1 j) e (ne_eqb m 0 (λ y. omega arith))) in
          subst (Grouped s at n) (sym (field_in s 8 (p + 1) (n + 2 * k + 1) (byte_then m v rest) q ∙ rw u)) (r z more q)
      go false h false u =
          let q : p + 1 + 8 ≤ 8 * length s = ltb-false (8 * length s) (p + 1 + 8) h in
          let z : m ≡ 1 → ⊥ = eqb-false m 1 u in
          let d : run s (byte_then m v rest (value_at s (p + 1) 8)) (p + 1 + 8) (n + 2 * k + 1 + 1)
          ≡ gave (groups_value s at (suc k)) (p + 1 + 8) (n + 2 * k + 1 + 1) = rw u in
          let f : p + 1 + 8 ≡ at + 9 * (k + 1) = omega arith in
          let g : n + 2 * k + 1 + 1 ≡ n + 2 * (k + 1) = omega arith in
          ends k (omega arith) c (omega (arith, value_lt s p 1)) (omega arith)
          (field_in s 8 (p + 1) (n + 2 * k + 1) (byte_then m v rest) q ∙ d
          ∙ λ i. gave (groups_value s at (suc k)) (f i) (g i))

  bit_grouped : p + 1 ≤ 8 * length s → Rest → Grouped s at n (run s (bit_then j v rest m) (p + 1) (n + 2 * k + 1))
  unfolding bit_then need ◌>>◌ ◌>>=◌ run
  bit_grouped l r = go (eqb m 0 || leb 1 j) refl
    where
      go : (t : Bool) → (eqb m 0 || leb 1 j) ≡ t
          → Grouped s at n (run s (need t 14 1 >> (field Open 8 >>= byte_then m v rest)) (p + 1) (n + 2 * k + 1))
      go true e = byte_grouped l e r
      go false e =
          let q = neither (eqb m 0) (leb 1 j) e in
          let z : m ≡ 0 → ⊥ = eqb-false m 0 q.0 in
          let y : k ≡ 3 = omega (arith, leb-false 1 j q.1) in
          let f : p + 1 - 1 ≡ at + 27 = omega arith in
          let g : n + 2 * k + 1 ≡ n + 7 = omega arith in
          let w : at + 27 ≡ p = omega arith in
          fifth (rw y at c) (omega arith) (rw w (omega (arith, value_lt s p 1))) (λ i. refused (stop 14 (f i) 1 (g i)))

  group_grouped : Rest → Grouped s at n (run s (field Open 1 >>= bit_then j v rest) p (n + 2 * k))
  group_grouped r = go (ltb (8 * length s) (p + 1)) refl
    where
      go : (x : Bool) → ltb (8 * length s) (p + 1) ≡ x
          → Grouped s at n (run s (field Open 1 >>= bit_then j v rest) p (n + 2 * k))
      go true h =
          let q : 8 * length s < p + 1 = ltb-true (8 * length s) (p + 1) h in
          no_bit k (omega arith) c q (field_out s 1 p (n + 2 * k) (bit_then j v rest) q)
      go false h =
          let q : p + 1 ≤ 8 * length s = ltb-false (8 * length s) (p + 1) h in
          subst (Grouped s at n) (sym (field_in s 1 p (n + 2 * k) (bit_then j v rest) q)) (bit_grouped q r)

groups_grouped : (s : List ℕ) (at n j k : ℕ) → 1 ≤ j → k + j ≡ 4 → Continued s at k
    → Grouped s at n (run s (groups_from j (groups_value s at k)) (at + 9 * k) (n + 2 * k))
unfolding groups_from bit_then byte_then groups_value
groups_grouped s at n zero k h e c = absurd (omega arith)
groups_grouped s at n (suc j) k h e c =
    group_grouped s at n k j (groups_from j) e c (λ z more q.
    let f : at + 9 * k + 1 + 8 ≡ at + 9 * suc k = omega arith in
    let g : n + 2 * k + 1 + 1 ≡ n + 2 * suc k = omega arith in
    rw (f, g) (groups_grouped s at n j (suc k) more (omega arith) (continued_more s at k c z (omega arith))))

pub groups_four : GroupsAreFour
unfolding groups_value
groups_four s at n h =
    let f : at + 9 * 0 ≡ at = omega arith in
    let g : n + 2 * 0 ≡ n = omega arith in
    rw (f, g) at (groups_grouped s at n 4 0 (omega arith) refl
    (record { inside = omega arith; ones = λ j l. absurd (omega arith) }))
