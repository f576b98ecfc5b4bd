-- What is written of one stream, in its place among the others, and what its first bit says.
use mathlib.Core.Path.{◌≡◌, refl, ◌∙◌}
use mathlib.Core.Bool.{Bool, true, false, cond}
use mathlib.Core.List.{List, [], ◌∷◌, ◌++◌, append_assoc}
use Prim.Native.Nat.{ℕ, zero, suc, ◌+◌, ◌-◌, ◌≤◌}
use native.Mathlib.Nat.{zero-add, add-zero}
use native.Mathlib.Omega.{arith}
use borrow.Author.Tests.{ne_eqb}
use lib.ListN.{get_or}
use Rattle.kernel.specs.Exactly.{Exactly}
use Rattle.kernel.specs.Bits.{bits_of, odd}
use Rattle.kernel.proofs.Lists.{Begins}
use Rattle.records.specs.declared.Config.{Config}
use Rattle.records.specs.declared.Stream.{Stream}
use Rattle.records.specs.declared.Record.{Record}
use Rattle.records.specs.Blank.{no_stream}
use Rattle.records.specs.Same.{same_config}
use Rattle.records.specs.Table.{streams_in}
use Rattle.records.proofs.Tables.{streams_next}
use Rattle.records.proofs.Theorems.{same_means_equal, equal_means_same}
use Rattle.config.specs.Mux.{config_bits, frame_length_bits, layer_bits, config_at, layers_bits, programs_bits}
use Rattle.config.specs.Mux.{mux_ending_bits, mux_bits}
use Rattle.config.specs.Claims.{bits_before, SaysSame}

-- ---- layers in two runs, and programs

module _ (version : ℕ) (ss : List Stream) where
  layers_split : (l m next : ℕ)
      → layers_bits version (l + m) next ss ≡ layers_bits version l next ss ++ layers_bits version m (next + l) ss
  unfolding layers_bits
  layers_split zero m next = rw (zero-add m, add-zero next)
  layers_split (suc l) m next =
      let e : suc l + m ≡ suc (l + m) = omega arith in
      let f : next + suc l ≡ next + 1 + l = omega arith in
      rw (e, f, layers_split l m (next + 1), append_assoc)

  module _ (ks : List ℕ) (last : ℕ) where
    programs_split : (p m q : ℕ) → q + p ≤ last + 1
        → programs_bits version (p + m) q (streams_in ks last q) ks ss
        ≡ programs_bits version p q (streams_in ks last q) ks ss
        ++ programs_bits version m (q + p) (streams_in ks last (q + p)) ks ss
    unfolding programs_bits
    programs_split zero m q h = rw (zero-add m, add-zero q)
    programs_split (suc p) m q h =
        let e : suc p + m ≡ suc (p + m) = omega arith in
        let f : q + suc p ≡ q + 1 + p = omega arith in
        rw (
          e,
          f,
          streams_next ks last q (omega arith),
          programs_split p m (q + 1)
              (omega arith),
          append_assoc,
          append_assoc,
        )

-- ---- the first bit of a stream's

layer_begins : (version i : ℕ) (before : Config) (s : Stream) → 1 ≤ i
    → Begins (layer_bits version i before s) (same_config before s.config ∷ [])
unfolding layer_bits bits_of odd
layer_begins version i before s h = rw (ne_eqb i 0 (λ e. omega arith)) (go (same_config before s.config))
  where
    go : (t : Bool)
        → Begins (cond t (bits_of 1 1) (bits_of 1 0 ++ config_bits version s.config) ++ frame_length_bits s) (t ∷ [])
    go true = record { rest = frame_length_bits s; is = refl }
    go false = record { rest = config_bits version s.config ++ frame_length_bits s; is = refl }

same_says : (a c : Config) → Exactly (same_config a c ≡ true) (a ≡ c)
same_says a c = record { then = same_means_equal a c; when = λ e. rw e (equal_means_same c) }

-- ---- in its place

module _ (r : Record) (p l : ℕ) (hp : p ≤ r.programs) (hl : l ≤ get_or r.layers p 0) where
  abbrev i : ℕ
  i = streams_in r.layers r.programs p + l

  abbrev this : List Bool
  this = layer_bits r.version i (config_at r.streams (i - 1)) (get_or r.streams i no_stream)

  abbrev behind_it : List Bool
  behind_it =
      layers_bits r.version (get_or r.layers p 0 - l) (i + 1) r.streams
      ++ (programs_bits r.version (r.programs - p) (p + 1)
      (streams_in r.layers r.programs p + (get_or r.layers p 0 + 1)) r.layers r.streams ++ mux_ending_bits r)

  program_is : layers_bits r.version (get_or r.layers p 0 + 1) (streams_in r.layers r.programs p) r.streams
      ≡ layers_bits r.version l (streams_in r.layers r.programs p) r.streams
      ++ (this ++ layers_bits r.version (get_or r.layers p 0 - l) (i + 1) r.streams)
  unfolding layers_bits
  program_is =
      let e : get_or r.layers p 0 + 1 ≡ l + suc (get_or r.layers p 0 - l) = omega arith in
      rw e (layers_split r.version r.streams l (suc (get_or r.layers p 0 - l))
      (streams_in r.layers r.programs p))

  programs_are : programs_bits r.version (r.programs + 1) 0 0 r.layers r.streams
      ≡ programs_bits r.version p 0 0 r.layers r.streams
      ++ (bits_of 3 (get_or r.layers p 0)
      ++ (layers_bits r.version (get_or r.layers p 0 + 1) (streams_in r.layers r.programs p) r.streams
      ++ programs_bits r.version (r.programs - p) (p + 1)
      (streams_in r.layers r.programs p + (get_or r.layers p 0 + 1)) r.layers r.streams))
  unfolding programs_bits streams_in
  programs_are =
      let e : r.programs + 1 ≡ p + suc (r.programs - p) = omega arith in
      rw e (rw (zero-add p) at (programs_split r.version r.streams r.layers r.programs p
      (suc (r.programs - p)) 0 (omega arith)))

  stands : mux_bits r ≡ bits_before r p l ++ (this ++ behind_it)
  unfolding mux_bits
  stands = rw (programs_are, program_is) (simp append_assoc refl)

  pub says_same : 1 ≤ i → SaysSame r p l i
  says_same h =
      let b = layer_begins r.version i (config_at r.streams (i - 1)) (get_or r.streams i no_stream) h in
      record {
        same = same_config (config_at r.streams (i - 1)) (config_at r.streams i);
        more = b.rest;
        behind = behind_it;
        layer = b.is;
        stands = stands ∙ rw b.is;
        says = same_says (config_at r.streams (i - 1)) (config_at r.streams i);
      }
