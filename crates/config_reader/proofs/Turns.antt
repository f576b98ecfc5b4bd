-- One turn of the loops over the programs and their layers: what is left to read, and the rows of the programs read.
use Rattle.std.proofs.Common.{◌≡◌, refl, ap, ◌∙◌, ℕ, suc, ◌+◌, ◌-◌, ◌≤◌, ◌<◌, arith}
use Rattle.std.proofs.Common.{List, ◌++◌, length, set, drop, replicate}
use Rattle.std.proofs.Math.Nat.{sub-zero}
use Rattle.std.proofs.Math.ListN.{length-set}
use Rattle.std.proofs.Math.Seq.{get_or-set_same}
use Rattle.kernel.specs.Reading.{Reading, give, ◌>>=◌}
use Rattle.kernel.specs.Lists.{tab}
use Rattle.kernel.proofs.Run.{bind_assoc}
use Rattle.kernel.proofs.Steps.{steps}
use Rattle.records.specs.declared.Config.{Config}
use Rattle.records.specs.declared.Stream.{Stream}
use Rattle.records.specs.Blank.{no_config, no_stream}
use Rattle.records.specs.Table.{streams_in, row_from, row_at, table_of}
use Rattle.records.proofs.Tables.{streams_more, streams_end, table_more, table_end}
use Rattle.config.specs.declared.Places.{Places}
use Rattle.config.specs.Mux.{layer, layers, config_at, num_layer, programs}

-- the configuration of the stream just before
unfoldable pub config_before : ℕ → List Stream → Config
config_before next ss = config_at ss (next - 1)

pub before_start : config_before 0 (replicate 16 no_stream) ≡ no_config
unfolding config_before
before_start = refl

pub before_turn : (next : ℕ) (ss : List Stream) (x : Stream) → next < length ss
    → config_before (next + 1) (set ss next x) ≡ x.config
unfolding config_before
before_turn next ss x h =
    let e : next + 1 - 1 ≡ next = omega arith in
    rw e (ap (λ (y : Stream). y.config) (get_or-set_same ss next x no_stream h))

module _ (version last : ℕ) where
  -- what is left of the programs 0 to `last` from program p on, of which the first layer is stream `next`
  unfoldable pub programs_left : ℕ → ℕ → List ℕ → List Stream → Reading Places
  programs_left p next ks ss = programs version (last + 1 - p) p next (record { layers = ks; streams = ss })

  -- and the same behind what is left of n layers from layer i on
  unfoldable pub layers_left : ℕ → ℕ → ℕ → ℕ → List ℕ → List Stream → Reading Places
  layers_left n i p next ks ss =
      layers version (n - i) next ss >>= λ ss. programs_left p (next + (n - i)) ks ss

  module _ (p next : ℕ) (ks : List ℕ) (ss : List Stream) where
    pub programs_start : p ≡ 0
        → programs_left p next ks ss ≡ programs version (last + 1) p next (record { layers = ks; streams = ss })
    unfolding programs_left
    programs_start h = let e : last + 1 - p ≡ last + 1 = omega arith in rw e

    pub programs_end : last < p → programs_left p next ks ss ≡ give (record { layers = ks; streams = ss })
    unfolding programs_left programs
    programs_end h = let e : last + 1 - p ≡ 0 = omega arith in rw e

    pub programs_turn : p ≤ last
        → programs_left p next ks ss ≡ (num_layer next >>= λ k. layers_left (k + 1) 0 (p + 1) next (set ks p k) ss)
    unfolding programs_left layers_left programs
    programs_turn h =
        let e : last + 1 - p ≡ suc (last - p) = omega arith in
        let f : last + 1 - (p + 1) ≡ last - p = omega arith in
        simp (e, f, sub-zero)

  module _ (n i p next : ℕ) (ks : List ℕ) (ss : List Stream) where
    pub layers_end : n ≤ i → layers_left n i p next ks ss ≡ programs_left p next ks ss
    unfolding layers_left layers ◌>>=◌
    layers_end h = let e : n - i ≡ 0 = omega arith in let f : next + 0 ≡ next = omega arith in rw (e, f)

    pub layers_turn : i < n
        → layers_left n i p next ks ss
        ≡ (layer version next (config_before next ss) >>= λ x. layers_left n (i + 1) p (next + 1) ks (set ss next x))
    unfolding layers_left layers config_before
    layers_turn h =
        let e : n - i ≡ suc (n - (i + 1)) = omega arith in
        let f : next + suc (n - (i + 1)) ≡ next + 1 + (n - (i + 1)) = omega arith in
        rw (e, f) (bind_assoc _ _ _)

-- the table's rows of the programs before p, and rows of nothing
unfoldable pub rows_until : List ℕ → ℕ → ℕ → List (List ℕ)
rows_until ks last p = tab p (row_at ks last) ++ drop p (replicate 16 (replicate 8 255))

module _ (ks : List ℕ) (last p : ℕ) where
  pub rows_start : p ≡ 0 → rows_until ks last p ≡ replicate 16 (replicate 8 255)
  unfolding rows_until tab
  rows_start e = rw e

  pub rows_turn : (k next : ℕ) → p ≤ last → last ≤ 15 → p < length ks → next ≡ streams_in ks last p
      → set (rows_until ks last p) p (row_from next (k + 1)) ≡ rows_until (set ks p k) last (p + 1)
  unfolding rows_until
  rows_turn k next h l t e = rw e (table_more ks last p k h t (replicate 16 (replicate 8 255)) (omega arith))

  pub rows_end : last < p → p ≤ last + 1 → last ≤ 15 → rows_until ks last p ≡ table_of ks last
  unfolding rows_until
  rows_end h g l = let e : p ≡ last + 1 = omega arith in rw e (table_end ks last l)

  pub streams_none : p ≡ 0 → streams_in ks last p ≡ 0
  unfolding streams_in
  streams_none e = rw e

pub ruleset what_is_left = (programs_start, programs_turn, programs_end, layers_turn, layers_end)

pub ruleset same_config_as = (before_start, before_turn)

pub ruleset the_table = (rows_start, rows_turn, rows_end, streams_none, streams_more, streams_end, length-set)

pub ruleset program_by_program = (steps, what_is_left, same_config_as, the_table)
