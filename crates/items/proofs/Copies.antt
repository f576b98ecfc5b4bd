-- Laws of the bits of an element: read as a value, and piece by piece.
use mathlib.Core.Path.{◌≡◌, refl, sym, ap, ◌∙◌}
use mathlib.Core.Bool.{Bool, true, false}
use mathlib.Core.List.{List, ◌++◌, append-nil}
use Prim.Native.Nat.{ℕ, zero, suc, ◌+◌, ◌-◌, ◌*◌, ◌/◌, ◌≤◌, ◌<◌}
use native.Mathlib.Omega.{arith}
use lib.ListN.{length, get_or, take, drop, length-drop}
use Rattle.std.proofs.Common.{min, append_assoc}
use lib.Dec.{leb}
use borrow.Author.Tests.{leb-true, leb-false}
use lib.Seq.{take-suc, take-add, get_or-drop, drop-drop}
use Rattle.kernel.specs.Bits.{bit_at, value_at, bit, odd, bits_of, unpack}
use Rattle.kernel.proofs.Bits.{bit_lt, bit_odd}
use Rattle.kernel.proofs.Held.{length-unpack, bit_at_law}
use Rattle.items.specs.Copied.{bits_from}
use Rattle.kernel.proofs.Puts.{bit_by_bit}

-- the bits of a value are the bits it was read from
pub bits_value : (s : List ℕ) (p w : ℕ) → p + w ≤ 8 * length s → bits_of w (value_at s p w) ≡ bits_from s p w
unfolding bits_of value_at
bits_value s p zero h = refl
bits_value s p (suc w) h =
    let b = get_or (unpack s) (p + w) false in
    let e : bit_at s (p + w) ≡ bit b = bit_at_law s (p + w) (omega arith) in
    let l = bit_lt b in
    let v = value_at s p w in
    let half : (2 * v + bit_at s (p + w)) / 2 ≡ v = omega (arith, e, l) in
    let last : odd (2 * v + bit_at s (p + w)) ≡ b = bit_odd (2 * v + bit_at s (p + w)) b (omega (arith, e, l)) in
    let n : w < length (drop p (unpack s)) = rw (length-drop, length-unpack) (omega arith) in
    rw (
      half,
      last,
      bits_value s p w (omega arith),
      take-suc (drop p (unpack s)) w false n,
      get_or-drop p
          (unpack s) w false,
    )

-- the first k, up to m of them before the rest
parts : (m k : ℕ) (l : List Bool) → take k l ≡ take (min k m) l ++ take (k - m) (drop m l)
parts m k l = by_test (leb m k) refl
  where
    by_test : (t : Bool) → leb m k ≡ t → take k l ≡ take (min k m) l ++ take (k - m) (drop m l)
    by_test true e =
        let h : m ≤ k = leb-true m k e in
        let f : min k m ≡ m = omega arith in
        let g : k ≡ m + (k - m) = omega arith in
        ap (λ (n : ℕ). take n l) g ∙ rw f (take-add m (k - m) l)
    by_test false e =
        let h : k < m = leb-false m k e in
        let f : min k m ≡ k = omega arith in
        let g : k - m ≡ 0 = omega arith in
        rw (f, g) (sym (append-nil (take k l)))

-- a turn of the copy: up to 8 bits, and those behind them
pub copy_turn : (s : List ℕ) (first width i : ℕ)
    → bits_from s (first + i) (width - i)
    ≡ bits_from s (first + i) (min (width - i) 8) ++ bits_from s (first + (i + 8)) (width - (i + 8))
copy_turn s first width i =
    let e : width - (i + 8) ≡ width - i - 8 = omega arith in
    let f : first + (i + 8) ≡ first + i + 8 = omega arith in
    rw (e, f, ← drop-drop 8 (first + i) (unpack s)) (parts 8 (width - i) (drop (first + i) (unpack s)))

pub regrouped : (a b c : List Bool) → (a ++ b) ++ c ≡ a ++ (b ++ c)
regrouped a b c = append_assoc a b c

pub ruleset copies = (bit_by_bit, regrouped, bits_value, copy_turn)
