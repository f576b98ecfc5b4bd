-- An array of 16 that is stored from the front on: what stands in it after n stores.
use mathlib.Core.Path.{◌≡◌, refl, sym, ap, ◌∙◌}
use mathlib.Core.List.{List, [], ◌∷◌, ◌++◌, append_assoc}
use Prim.Native.Nat.{ℕ, zero, suc, ◌+◌, ◌-◌, ◌<◌, ◌≤◌}
use native.Mathlib.Numerals.{add-one}
use native.Mathlib.Omega.{arith}
use lib.ListN.{length, get_or, set, take, replicate, get_or-append}
use lib.Seq.{take-suc, set_at, get_or-take, length-take-le}

module _ {A : Type 0} where
  -- the first n of xs, and then d
  unfoldable pub begun : A → ℕ → List A → List A
  begun d n xs = take n xs ++ replicate (16 - n) d

  pub begun_more : (d : A) (n : ℕ) (xs : List A) → n < 16 → length xs ≡ 16
      → set (begun d n xs) n (get_or xs n d) ≡ begun d (n + 1) xs
  unfolding begun
  begun_more d n xs h l =
      let e : 16 - n ≡ suc (16 - (n + 1)) = omega arith in
      let s = set_at (take n xs) d (replicate (16 - (n + 1)) d) (get_or xs n d) n (length-take-le n xs (omega arith)) in
      rw (e, s, add-one, take-suc xs n d (omega arith), append_assoc)

  pub begun_last : (d : A) (n i : ℕ) (xs : List A) → i < n → n ≤ 16 → length xs ≡ 16
      → get_or (begun d n xs) i d ≡ get_or xs i d
  unfolding begun
  begun_last d n i xs k h l =
      get_or-append (take n xs) (replicate (16 - n) d) d i (rw (length-take-le n xs (omega arith)) k)
      ∙ get_or-take n xs i d k

  all_same : (d : A) (n : ℕ) (xs : List A) → ((i : ℕ) → n ≤ i → i < length xs → get_or xs i d ≡ d)
      → take n xs ++ replicate (length xs - n) d ≡ xs
  all_same d zero [] h = refl
  all_same d (suc n) [] h = let e : 0 - suc n ≡ 0 = omega arith in rw e
  all_same d zero (x ∷ xs) h =
      let e : suc (length xs) - 0 ≡ suc (length xs - 0) = omega arith in
      let f : x ≡ d = h 0 (omega arith) (omega arith) in
      rw e (λ i. sym f i ∷ all_same d zero xs (λ j _ k. h (suc j) (omega arith) (omega arith)) i)
  all_same d (suc n) (x ∷ xs) h =
      let e : suc (length xs) - suc n ≡ length xs - n = omega arith in
      rw e (ap (λ (z : List A). x ∷ z) (all_same d n xs (λ j l k. h (suc j) (omega arith) (omega arith))))

  pub begun_all : (d : A) (n : ℕ) (xs : List A) → length xs ≡ 16 → ((i : ℕ) → n ≤ i → i < 16 → get_or xs i d ≡ d)
      → begun d n xs ≡ xs
  unfolding begun
  begun_all d n xs l h = rw l at (all_same d n xs (λ i a b. h i a (omega arith)))
