-- Numbers of several bytes: LatmGetValue, and the length of other data in version 0.
use Rattle.std.specs.Prelude.{Bool, cond, ◌||◌, List, ℕ, zero, suc, ◌+◌, ◌*◌, ◌/◌, ◌^◌, leb, ltb, eqb}
use Rattle.kernel.specs.declared.Window.TheVariants.{Open}
use Rattle.kernel.specs.Bits.{bits_of, ◌⧺◌}
use Rattle.kernel.specs.Reading.{Reading, give, field, choose, need, ◌>>=◌, ◌>>◌}

-- n bytes more of the number v, highest first
unfoldable pub bytes_from : ℕ → ℕ → Reading ℕ
bytes_from zero v = give v
bytes_from (suc n) v = do
  b ← field Open 8
  bytes_from n (256 * v + b)

-- LatmGetValue: 2 bits k, then k + 1 bytes
unfoldable pub latm_get_value : Reading ℕ
latm_get_value = do
  k ← field Open 2
  bytes_from (k + 1) 0

-- one less than the fewest bytes that hold v
abbrev pub fewest : ℕ → ℕ
fewest v = cond (ltb v 256) 0 (cond (ltb v 65536) 1 (cond (ltb v 16777216) 2 3))

-- what is written for it: the fewest bytes
unfoldable pub value_bits : ℕ → List Bool
value_bits v = bits_of 2 (fewest v) ⧺ bits_of (8 * (fewest v + 1)) v

-- otherDataLenEsc and otherDataLenTmp of version 0: a continue bit and a byte, highest first, in at most n more groups
unfoldable pub groups_from : ℕ → ℕ → Reading ℕ
groups_from zero v = give v
groups_from (suc n) v = do
  more ← field Open 1
  need (eqb more 0 || leb 1 n) 14 1
  b ← field Open 8
  choose (eqb more 1) (groups_from n (256 * v + b)) (give (256 * v + b))

-- k groups that are followed by another, and the last
unfoldable pub groups_after : ℕ → ℕ → List Bool
groups_after zero v = bits_of 1 0 ⧺ bits_of 8 v
groups_after (suc k) v = bits_of 1 1 ⧺ bits_of 8 (v / 2 ^ (8 * suc k)) ⧺ groups_after k v

-- what is written for such a length: the fewest groups
abbrev pub group_bits : ℕ → List Bool
group_bits v = groups_after (fewest v) v
