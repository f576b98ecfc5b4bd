-- What is claimed of numbers of several bytes. proofs/Theorems.antt has the theorem of each.
use Rattle.std.specs.Prelude.{◌≡◌, List, ℕ, zero, suc, ◌+◌, ◌*◌, ◌^◌, ◌≤◌, ◌<◌, length}
use Rattle.kernel.specs.declared.Window.TheVariants.{Open}
use Rattle.kernel.specs.Bits.{value_at}
use Rattle.kernel.specs.Reading.{gave, run, Outcome, refused, stop}
use Rattle.kernel.specs.Trip.{Reads}
use Rattle.numbers.specs.Values.{latm_get_value, value_bits, groups_from, group_bits}

-- a number of 32 bits as it is written reads back, as a variable value,
abbrev pub ValueReadsBack : Type 0
ValueReadsBack = (v at : ℕ) → v < 2 ^ 32 → Reads Open at latm_get_value (value_bits v) v

-- and in groups,
abbrev pub GroupsReadBack : Type 0
GroupsReadBack = (v at : ℕ) → v < 2 ^ 32 → Reads Open at (groups_from 4 0) (group_bits v) v

-- and is the shortest too, as a variable value
abbrev pub ValueIsShortest : Type 0
ValueIsShortest =
    (s : List ℕ) (at n v to m : ℕ) → run s latm_get_value at n ≡ gave v to m → at + length (value_bits v) ≤ to

-- and in groups
abbrev pub GroupsAreShortest : Type 0
GroupsAreShortest =
    (s : List ℕ) (at n v to m : ℕ) → run s (groups_from 4 0) at n ≡ gave v to m → at + length (group_bits v) ≤ to

-- the number that k groups make, the first of them at bit `at`: their bytes, highest first
unfoldable pub groups_value : List ℕ → ℕ → ℕ → ℕ
groups_value s at zero = 0
groups_value s at (suc k) = 256 * groups_value s at k + value_at s (at + 9 * k + 1) 8

-- k groups lie in the element, and the continue bit of each is 1
pub record Continued (s : List ℕ) (at k : ℕ) : Type 0 where
  pub inside : at + 9 * k ≤ 8 * length s
  pub ones : (j : ℕ) → j < k → value_at s (at + 9 * j) 1 ≡ 1

-- what groups from bit `at` on come to, with n fields read before them; at most four.
-- ends: k groups that are continued, and one that is not. no_bit, no_byte: behind k that are continued a field runs out.
-- fifth: the fourth is continued
pub data Grouped (s : List ℕ) (at n : ℕ) (o : Outcome ℕ) : Type 0 where
  ends : (k : ℕ) → k < 4 → Continued s at k → value_at s (at + 9 * k) 1 ≡ 0 → at + 9 * (k + 1) ≤ 8 * length s
      → o ≡ gave (groups_value s at (suc k)) (at + 9 * (k + 1)) (n + 2 * (k + 1)) → Grouped s at n o
  no_bit : (k : ℕ) → k < 4 → Continued s at k → 8 * length s < at + 9 * k + 1
      → o ≡ refused (stop 3 (at + 9 * k) 0 (n + 2 * k)) → Grouped s at n o
  no_byte : (k : ℕ) → k < 4 → Continued s at k → (k ≡ 3 → value_at s (at + 9 * k) 1 ≡ 0) → at + 9 * k + 1 ≤ 8 * length s
      → 8 * length s < at + 9 * (k + 1)
      → o ≡ refused (stop 3 (at + 9 * k + 1) 0 (n + 2 * k + 1)) → Grouped s at n o
  fifth : Continued s at 3 → at + 28 ≤ 8 * length s → value_at s (at + 27) 1 ≡ 1
      → o ≡ refused (stop 14 (at + 27) 1 (n + 7)) → Grouped s at n o

-- the length of other data in version 0 is that of at most four groups, and 14 stands at the fourth continue bit
abbrev pub GroupsAreFour : Type 0
GroupsAreFour = (s : List ℕ) (at n : ℕ) → at ≤ 8 * length s → Grouped s at n (run s (groups_from 4 0) at n)
