-- What is put part by part is put as one: the laws by which each function that puts is proved.
use Rattle.std.proofs.Common.{◌≡◌, refl, sym, Bool, ℕ, ◌+◌, ◌-◌, ◌/◌, ◌^◌, List, [], ◌∷◌, ◌++◌, length, drop, take, min, arith}
use Rattle.std.proofs.lemmas.Bool.Decides.{nat_tests}
use Rattle.std.proofs.lemmas.List.Edits.{sets}
use lib.ListN.{length-append, length-take, length-drop}
use Rattle.kernel.specs.declared.BitWriter.{BitWriter}
use Rattle.kernel.specs.Bits.{bits_of, unpack, Bytes}
use Rattle.kernel.specs.Puts.{Puts}
use Rattle.kernel.proofs.Bits.{length-bits_of, bits_add}
use Rattle.kernel.proofs.Lists.{sets-append}
use Rattle.kernel.proofs.Held.{unpack-drop, length-unpack, take_whole, take_some}
use Rattle.kernel.proofs.Laid.{store_at, store_out, put_once}

-- what is put in two parts
pub laid_split : (l : List Bool) (i : ℕ) (a b : List Bool) → sets l i (a ++ b) ≡ sets (sets l i a) (i + length a) b
laid_split l i a b = sym (sets-append a b l i (i + length a) refl)

pub laid_none : (l : List Bool) (i : ℕ) (b : List Bool) → length b ≡ 0 → sets l i b ≡ l
laid_none l i [] h = refl
laid_none l i (x ∷ b) h = absurd (omega arith)

pub both_long : (a b : List Bool) → length (a ++ b) ≡ length a + length b
both_long a b = length-append a b

-- for a function that puts
pub ruleset puts = (laid_split, laid_none, both_long, length-bits_of, nat_tests)

-- what is put, and where, is determined
pub one_writer : {w v u : BitWriter} {b : List Bool} {n : ℕ} → Bytes v.out.now → Bytes u.out.now → Puts w b n v
    → Puts w b n u → (v.at ≡ u.at) × (v.out.now ≡ u.out.now)
one_writer g h p q = put_once g h p.put q.put

-- ---- loops, and what the kernel itself puts

-- w' has put a part of c, and b is left
pub record Left (w : BitWriter) (c : List Bool) (w' : BitWriter) (b : List Bool) : Type 0 where
  pub same : w'.out.ghost_name ≡ w.out.ghost_name
  pub next : w'.at + length b ≡ w.at + length c
  pub bits : sets (unpack w'.out.now) w'.at b ≡ sets (unpack w.out.now) w.at c

pub laid_then : (l : List Bool) (i : ℕ) (a : List Bool) (j : ℕ) (b : List Bool) → j ≡ i + length a
    → sets (sets l i a) j b ≡ sets l i (a ++ b)
laid_then l i a j b h = sets-append a b l i j h

pub bits_joined : (m w v : ℕ) → bits_of m (v / 2 ^ w) ++ bits_of w v ≡ bits_of (m + w) v
bits_joined m w v = sym (bits_add m w v)

pub fewer : (s : List ℕ) (n : ℕ) → length (take n s) ≡ min n (length s)
fewer s n = length-take n s

pub rest_long : (s : List ℕ) (n : ℕ) → length (drop n s) ≡ length s - n
rest_long s n = length-drop n s

pub ruleset bit_by_bit = (laid_then, laid_none, both_long, length-bits_of, bits_joined, nat_tests)

pub ruleset byte_by_byte = (puts, unpack-drop, length-unpack, rest_long)

pub ruleset one_byte = (puts, store_at, store_out)

pub ruleset some_bits = (puts, length-unpack, fewer, take_whole, take_some)
