-- One turn of the productions that loop.
use mathlib.Core.Path.{◌≡◌, refl}
use mathlib.Core.Bool.{Bool}
use mathlib.Core.List.{List, [], ◌++◌}
use Prim.Native.Nat.{ℕ, suc, ◌+◌, ◌-◌, ◌≤◌, ◌<◌}
use native.Mathlib.Omega.{arith}
use lib.ListN.{get_or, take}
use lib.Seq.{get_or-take}
use Rattle.kernel.specs.Bits.{bits_of}
use Rattle.kernel.proofs.Puts.{puts}
use Rattle.records.specs.declared.Stream.{Stream}
use Rattle.records.specs.Blank.{no_stream}
use Rattle.records.specs.Table.{streams_in}
use Rattle.config.specs.Mux.{layer_bits, config_at, layers_bits, programs_bits}
use Rattle.records.proofs.Tables.{streams_next, streams_upto}

module _ (version : ℕ) (streams : List Stream) where
  -- the layers from stream `next` up to stream `end`
  unfoldable pub layers_left : ℕ → ℕ → List Bool
  layers_left end next = layers_bits version (end - next) next streams

  pub layers_start : (n first : ℕ) → layers_left (first + n) first ≡ layers_bits version n first streams
  unfolding layers_left
  layers_start n first = let e : first + n - first ≡ n = omega arith in rw e

  pub layers_turn : (end next : ℕ) → next < end
      → layers_left end next
      ≡ layer_bits version next (config_at streams (next - 1)) (get_or streams next no_stream)
      ++ layers_left end (next + 1)
  unfolding layers_left layers_bits
  layers_turn end next h = let e : end - next ≡ suc (end - (next + 1)) = omega arith in rw e

  pub layers_end : (end next : ℕ) → end ≤ next → layers_left end next ≡ []
  unfolding layers_left layers_bits
  layers_end end next h = let e : end - next ≡ 0 = omega arith in rw e

  module _ (ks : List ℕ) where
    -- the programs from program p up to program n, whose first stream is `next`
    unfoldable pub programs_left : ℕ → ℕ → ℕ → List Bool
    programs_left n p next = programs_bits version (n - p) p next ks streams

    pub programs_start : (n : ℕ) → programs_left n 0 0 ≡ programs_bits version n 0 0 ks streams
    unfolding programs_left
    programs_start n = let e : n - 0 ≡ n = omega arith in rw e

    pub programs_turn : (n p next : ℕ) → p < n
        → programs_left n p next
        ≡ bits_of 3 (get_or ks p 0) ++ (layers_bits version (get_or ks p 0 + 1) next streams
        ++ programs_left n (p + 1) (next + (get_or ks p 0 + 1)))
    unfolding programs_left programs_bits
    programs_turn n p next h = let e : n - p ≡ suc (n - (p + 1)) = omega arith in rw e

    pub programs_end : (n p next : ℕ) → n ≤ p → programs_left n p next ≡ []
    unfolding programs_left programs_bits
    programs_end n p next h = let e : n - p ≡ 0 = omega arith in rw e

-- of at most 16 streams, those up to program p are not more
pub few_streams : (ks : List ℕ) (n p : ℕ) → p ≤ n → n ≤ 15 → streams_in ks n 16 ≤ 16
    → streams_in ks n p + (get_or ks p 0 + 1) ≤ 16
few_streams ks n p h l few = omega (arith, streams_next ks n p h, streams_upto ks n (p + 1) 16 (omega arith))

pub no_streams : (ks : List ℕ) (n : ℕ) → streams_in ks n 0 ≡ 0
unfolding streams_in
no_streams ks n = refl

-- a program among the first n
pub among : (ks : List ℕ) (n p : ℕ) → p < n → get_or (take n ks) p 0 ≡ get_or ks p 0
among ks n p h = get_or-take n ks p 0 h

pub ruleset layer_by_layer = (puts, layers_start, layers_turn, layers_end)

pub ruleset program_by_program =
    (puts, programs_start, programs_turn, programs_end, few_streams, streams_next, no_streams, among)
