-- A test of all places of a list, each with its number.
use Rattle.std.proofs.Common.{◌≡◌, refl, ℕ, zero, suc, ◌+◌, ◌≤◌, Bool, List, length, get_or, take, add-one, arith}
use Rattle.std.specs.List.{list_all, enumerate_from}
use Rattle.std.proofs.lemmas.List.Folds.{list_all_more}
use Rattle.std.proofs.lemmas.List.FromFn.{length-enumerate_from, get_or-enumerate_from}
use lib.Seq.{take-length}
use Rattle.kernel.specs.Lists.{all_of}
use Rattle.records.specs.declared.Stream.{Stream}
use Rattle.records.specs.Blank.{no_stream}
use Rattle.records.specs.Valid.{layer_ok, layers_ok, stream_ok, streams_ok}

module _ {A : Type 0} (f : ℕ → A → Bool) (d : A) (xs : List A) where
  numbered : List (ℕ × A)
  numbered = enumerate_from 0 xs

  so_far : (i : ℕ) → i ≤ length xs
      → list_all (λ x. f x.0 x.1) (take i numbered) ≡ all_of i (λ j. f j (get_or xs j d))
  unfolding all_of numbered
  so_far zero h = refl
  so_far (suc i) h =
      let l : length numbered ≡ length xs = length-enumerate_from 0 xs in
      let e : get_or numbered i (0, d) ≡ (0 + i, get_or xs i d) = get_or-enumerate_from 0 xs i (0, d) (omega arith) in
      let z : 0 + i ≡ i = omega arith in
      let m = list_all_more (λ x. f x.0 x.1) numbered i (0, d) (omega (arith, l)) in
      rw (← add-one i, m, so_far i (omega arith), e, z)

  pub each_place : (n : ℕ) → length xs ≡ n
      → list_all (λ x. f x.0 x.1) (enumerate_from 0 xs) ≡ all_of n (λ i. f i (get_or xs i d))
  unfolding numbered
  each_place n l =
      let m : length numbered ≡ length xs = length-enumerate_from 0 xs in
      let t : take n numbered ≡ numbered = rw (← l, ← m, take-length) in
      rw t at (so_far n (omega arith))

-- every program has the layers that it may have, and every place the stream
pub layers_of : (layers : List ℕ) (n : ℕ) → length layers ≡ 16
    → list_all (λ x. layer_ok n x.0 x.1) (enumerate_from 0 layers) ≡ layers_ok layers n
layers_of layers n = each_place (layer_ok n) 0 layers 16

pub streams_of : (version k : ℕ) (streams : List Stream) → length streams ≡ 16
    → list_all (λ x. stream_ok version k x.0 x.1) (enumerate_from 0 streams) ≡ streams_ok version k streams
streams_of version k streams = each_place (stream_ok version k) no_stream streams 16
