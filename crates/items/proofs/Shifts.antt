-- An item is found behind another as it is without it.
use mathlib.Core.Path.{◌≡◌, refl}
use mathlib.Core.List.{List, [], ◌∷◌, ◌++◌}
use mathlib.Core.Bool.{Bool, true, false}
use Prim.Native.Nat.{ℕ, zero, suc, ◌+◌, ◌*◌, ◌/◌, ◌<◌}
use native.Mathlib.Nat.{suc-add}
use native.Mathlib.Omega.{arith}
use lib.Dec.{ltb}
use lib.ListN.{length, get_or}
use borrow.Author.Tests.{ltb-true, ltb-false, lt-ltb, le-ltb}
use Rattle.kernel.specs.Element as kernel
use Rattle.element.specs.Reply.{numbers}
use Rattle.items.specs.Items.{item_at, items_from, items_of}

ltb_suc : (i n : ℕ) → ltb (suc i) (suc n) ≡ ltb i n
ltb_suc i n = by_test (ltb i n) refl where
  by_test : (t : Bool) → ltb i n ≡ t → ltb (suc i) (suc n) ≡ t
  by_test true e = lt-ltb (suc i) (suc n) (omega (arith, ltb-true i n e))
  by_test false e = le-ltb (suc i) (suc n) (omega (arith, ltb-false i n e))

module _ (a b c d : ℕ) (map : List ℕ) where
  number_behind : (k j : ℕ) → k ≡ suc (suc (suc (suc j))) → get_or (a ∷ b ∷ c ∷ d ∷ map) k 0 ≡ get_or map j 0
  number_behind k j e = rw e

  at_first : item_at (a ∷ b ∷ c ∷ d ∷ map) 0 ≡ record { kind = a; stream = b; first = c; width = d }
  at_first =
      let h : 0 < length (a ∷ b ∷ c ∷ d ∷ map) / 4 = omega arith in
      rw (lt-ltb 0 (length (a ∷ b ∷ c ∷ d ∷ map) / 4) h)

  at_shifted : (i : ℕ) → item_at (a ∷ b ∷ c ∷ d ∷ map) (suc i) ≡ item_at map i
  at_shifted i =
      let e : length (a ∷ b ∷ c ∷ d ∷ map) / 4 ≡ suc (length map / 4) = omega arith in
      let g : (k : ℕ)
      → get_or (a ∷ b ∷ c ∷ d ∷ map) (4 * suc i + k) 0 ≡ get_or map (4 * i + k) 0 =
      λ k. number_behind (4 * suc i + k) (4 * i + k) (omega arith) in
      rw (e, ltb_suc i (length map / 4), number_behind (4 * suc i) (4 * i) (omega arith), g 1, g 2, g 3)

  from_shifted : (i k : ℕ) → items_from (a ∷ b ∷ c ∷ d ∷ map) (suc i) k ≡ items_from map i k
  unfolding items_from
  from_shifted i zero = refl
  from_shifted i (suc k) = rw (at_shifted i, suc-add, from_shifted (i + 1) k)

pub come_back : (its : List kernel.Item) (rest : List ℕ) → items_from (numbers its ++ rest) 0 (length its) ≡ items_of its
unfolding items_from items_of numbers
come_back [] rest = refl
come_back (it ∷ its) rest =
    let map = numbers its ++ rest in
    rw (
      at_first it.kind it.stream it.first it.width map,
      from_shifted it.kind it.stream it.first
          it.width map 0 (length its),
      come_back its rest,
    )
