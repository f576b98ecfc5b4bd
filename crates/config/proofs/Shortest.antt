-- No reading gives a record from fewer bits than are written for it.
use mathlib.Core.Path.{◌≡◌, refl, sym, ap, ◌∙◌}
use mathlib.Core.Bool.{Bool, true, false, cond}
use mathlib.Core.List.{List, [], ◌++◌}
use Prim.Native.Nat.{ℕ, zero, suc, ◌+◌, ◌-◌, ◌<◌, ◌≤◌}
use native.Mathlib.Omega.{arith}
use lib.Dec.{eqb}
use lib.ListN.{length, get_or, set, length-append, length-set}
use lib.Seq.{get_or-set_same, get_or-set_other}
use borrow.Author.Tests.{leb-true}
use Rattle.kernel.specs.declared.Window.TheVariants.{Open, UpTo}
use Rattle.kernel.specs.Bits.{bits_of}
use Rattle.kernel.specs.Reading.{give, field, choose}
use Rattle.kernel.proofs.Bits.{length-bits_of}
use Rattle.kernel.proofs.Ends.{Ends, end_give, end_refuse, end_choose, end_need, end_here, end_pass, end_field}
use Rattle.kernel.proofs.Ends.{end_last, end_on, end_map}
use Rattle.records.specs.declared.Config.{Config}
use Rattle.records.specs.declared.Stream.{Stream}
use Rattle.records.specs.Blank.{no_stream}
use Rattle.records.specs.Same.{same_config}
use Rattle.records.proofs.Theorems.{equal_means_same}
use Rattle.config.specs.declared.Head.{Head}
use Rattle.config.specs.declared.Ending.{Ending}
use Rattle.config.specs.declared.Places.{Places}
use Rattle.numbers.specs.Values.{latm_get_value, value_bits, groups_from, group_bits}
use Rattle.asc.specs.Asc.{asc_bits}
use Rattle.numbers.proofs.Shortest.{value_more, value_end, groups_end}
use Rattle.asc.proofs.ShortestAsc.{asc_end}
use Rattle.config.specs.Mux.{windowed, configuration, config_bits, frame_length, frame_length_bits, sent_or_same, layer}
use Rattle.config.specs.Mux.{layer_bits, config_at, layers, layers_bits, num_layer, programs, programs_bits}
use Rattle.config.specs.Mux.{mux_version_a}
use Rattle.config.specs.Mux.{mux_head, mux_head_bits, other_length, mux_ending, mux_ending_bits, no_places, record_of}
use Rattle.config.specs.Mux.{stream_mux_config, mux_bits}

-- ---- a configuration

windowed_end : (p : ℕ) → Ends (λ c q. p + length (config_bits 1 c) ≤ q) windowed p
unfolding windowed config_bits
windowed_end p =
    end_on _ (value_end p) λ n u (h, l).
    end_here _ (end_on _ (asc_end (UpTo (u + n)) u) λ c v (k, i). end_here _ (end_pass Open (u + n - v) (end_give
    (let m : length (asc_bits c) ≤ n = omega arith in simp length-append
    (omega (arith, value_more (length (asc_bits c)) n m l))))))

config_end : (version p : ℕ) → Ends (λ c q. p + length (config_bits version c) ≤ q) (configuration version) p
unfolding configuration config_bits
config_end version p =
    end_choose (eqb version 1) (λ e. rw e (windowed_end p)) (λ e. rw e (end_map (λ c q (h, _). h) (asc_end Open p)))

-- ---- a stream

frame_length_end : (c : Config) (p : ℕ)
    → Ends (λ s q. (s.config ≡ c) × (p + length (frame_length_bits s) ≤ q)) (frame_length c) p
unfolding frame_length frame_length_bits
frame_length_end c p =
    end_field Open 3 _ λ t _ _.
    end_choose (eqb t 0) (λ _. end_field Open 8 _ λ v _ _.
    end_give (refl, simp (length-append, length-bits_of) (omega arith)))
    (λ _. end_choose (eqb t 1) (λ _. end_field Open 9 _ λ v _ _.
    end_give (refl, simp (length-append, length-bits_of) (omega arith))) (λ _. end_refuse))

-- useSameConfig, and the configuration if it is 0
abbrev said_length : ℕ → Config → Config → ℕ
said_length version before c = cond (same_config before c) 1 (1 + length (config_bits version c))

said_most : (version : ℕ) (before c : Config) → said_length version before c ≤ 1 + length (config_bits version c)
said_most version before c = go (same_config before c)
  where
    go : (t : Bool) → cond t 1 (1 + length (config_bits version c)) ≤ 1 + length (config_bits version c)
    go true = omega arith
    go false = omega arith

said_end : (version : ℕ) (before : Config) (p : ℕ)
    → Ends (λ c q. p + said_length version before c ≤ q) (sent_or_same version before) p
unfolding sent_or_same
said_end version before p =
    end_field Open 1 _ λ same _ _.
    end_choose (eqb same 1) (λ _. end_give (rw (equal_means_same before) (omega arith)))
    (λ _. end_map (λ c q h. omega (arith, said_most version before c)) (config_end version (p + 1)))

layer_length : (version next : ℕ) (before : Config) (s : Stream)
    → length (layer_bits version next before s)
    ≡ cond (eqb next 0) (length (config_bits version s.config)) (said_length version before s.config)
    + length (frame_length_bits s)
unfolding layer_bits
layer_length version next before s = go (eqb next 0) (same_config before s.config)
  where
    go : (t u : Bool) → length (cond t (config_bits version s.config)
        (cond u (bits_of 1 1) (bits_of 1 0 ++ config_bits version s.config)) ++ frame_length_bits s)
        ≡ cond t (length (config_bits version s.config)) (cond u 1 (1 + length (config_bits version s.config)))
        + length (frame_length_bits s)
    go true u = length-append (config_bits version s.config) (frame_length_bits s)
    go false true = simp (length-append, length-bits_of) refl
    go false false = simp (length-append, length-bits_of) (omega arith)

layer_end : (version next : ℕ) (before : Config) (p : ℕ)
    → Ends (λ s q. p + length (layer_bits version next before s) ≤ q) (layer version next before) p
unfolding layer
layer_end version next before p =
    end_on _ (first (eqb next 0)) λ c q h.
    end_map (λ s r (e, k). omega (arith, layer_length version next before s, rw (sym e) at h)) (frame_length_end c q)
  where
    first : (t : Bool) → Ends (λ c q. p + cond t (length (config_bits version c)) (said_length version before c) ≤ q)
        (choose t (configuration version) (sent_or_same version before)) p
    first t = end_choose t (λ e. rw e (config_end version p)) (λ e. rw e (said_end version before p))

-- ---- the streams

-- the same below place n
abbrev Agree : {A : Type 0} → A → ℕ → List A → List A → Type 0
Agree d n xs ys = (i : ℕ) → i < n → get_or xs i d ≡ get_or ys i d

-- before stream 0 stands none
layer_same : (version next : ℕ) (a b : Config) (s : Stream) → (1 ≤ next → a ≡ b)
    → layer_bits version next a s ≡ layer_bits version next b s
unfolding layer_bits
layer_same version zero a b s h = refl
layer_same version (suc next) a b s h = rw (h (omega arith))

layers_same : (version n next : ℕ) (ss ts : List Stream) → Agree no_stream (next + n) ts ss
    → layers_bits version n next ts ≡ layers_bits version n next ss
unfolding layers_bits
layers_same version zero next ss ts h = refl
layers_same version (suc n) next ss ts h =
    let e : next + suc n ≡ next + 1 + n = omega arith in
    let a : config_at ts (next - 1)
    ≡ config_at ss (next - 1) = ap (λ (x : Stream). x.config) (h (next - 1) (omega arith)) in
    rw (a, h next (omega arith), layers_same version n (next + 1) ss ts (rw e at h))

layers_end : (version n next : ℕ) (ss : List Stream) (p : ℕ) → length ss ≡ 16 → next + n ≤ 16
    → Ends (λ ts q. (length ts ≡ 16) × Agree no_stream next ts ss
    × (p + length (layers_bits version n next ts) ≤ q)) (layers version n next ss) p
unfolding layers layers_bits
layers_end version zero next ss p l few = end_give (l, λ i h. refl, omega arith)
layers_end version (suc n) next ss p l few =
    end_on _ (layer_end version next (config_at ss (next - 1)) p) λ s q h.
    end_map (λ ts r (k, a, c).
    let this : get_or ts next no_stream ≡ s = a next (omega arith) ∙ get_or-set_same ss next s no_stream (omega arith) in
    let below : Agree no_stream next ts ss = λ i b. a i (omega arith)
    ∙ get_or-set_other ss next i s no_stream (λ e. omega arith) in
    let e =
    layer_same version next (config_at ts (next - 1)) (config_at ss (next - 1)) s
    (λ b. ap (λ (x : Stream). x.config) (below (next - 1) (omega arith))) in
    (k, below, rw (this, e) (simp length-append (omega arith))))
    (layers_end version n (next + 1) (set ss next s) q (length-set ss next s ∙ l) (omega arith))

-- ---- the programs

num_layer_end : (next p : ℕ) → Ends (λ k q. (next + (k + 1) ≤ 16) × (q ≡ p + 3)) (num_layer next) p
unfolding num_layer
num_layer_end next p =
    end_field Open 3 _ λ k _ _. end_need _ 7 3 λ t. end_give (leb-true (next + (k + 1)) 16 t, refl)

programs_end : (version n at next : ℕ) (g : Places) (p : ℕ) → length g.layers ≡ 16 → length g.streams ≡ 16
    → at + n ≤ 16
    → Ends (λ o q. Agree 0 at o.layers g.layers × Agree no_stream next o.streams g.streams
    × (p + length (programs_bits version n at next o.layers o.streams) ≤ q))
    (programs version n at next g) p
unfolding programs programs_bits
programs_end version zero at next g p kl sl few = end_give (λ i h. refl, λ i h. refl, omega arith)
programs_end version (suc n) at next g p kl sl few =
    end_on _ (num_layer_end next p) λ k r (most, three).
    end_on _ (layers_end version (k + 1) next g.streams r sl most) λ ss q (l, a, h).
    end_map (λ o r (b, c, d).
    let this : get_or o.layers at 0 ≡ k = b at (omega arith) ∙ get_or-set_same g.layers at k 0 (omega arith) in
    let e = layers_same version (k + 1) next ss o.streams c in (
      λ i x. b i (omega arith) ∙ get_or-set_other g.layers at i k 0 (λ e. omega arith),
      λ i x. c i (omega arith) ∙ a i x,
      rw (this, e) (simp (length-append, length-bits_of) (omega arith)),
    ))
    (programs_end version n (at + 1) (next + (k + 1)) (record { layers = set g.layers at k; streams = ss }) q
    (length-set g.layers at k ∙ kl) l (omega arith))

-- ---- what stands before and behind them

subversion_end : (t : Bool) (p : ℕ)
    → Ends (λ a q. p + length (cond t (bits_of 1 a) []) ≤ q) (choose t mux_version_a (give 0)) p
unfolding mux_version_a
subversion_end t p =
    end_choose t (λ e. rw e (end_field Open 1 _ λ a _ _. end_need _ 5 1 λ _.
    end_give (simp length-bits_of (omega arith)))) (λ e. rw e (end_give (omega arith)))

tara_end : (t : Bool) (p : ℕ)
    → Ends (λ x q. p + length (cond t (value_bits x) []) ≤ q) (choose t latm_get_value (give 0)) p
tara_end t p = end_choose t (λ e. rw e (end_map (λ x q (h, _). h) (value_end p))) (λ e. rw e (end_give (omega arith)))

head_end : (p : ℕ) → Ends (λ h q. (h.programs ≤ 15)
    × ((g : Places) (t : Ending) → p + length (mux_head_bits (record_of h g t)) ≤ q)) mux_head p
unfolding mux_head mux_head_bits
head_end p =
    end_field Open 1 _ λ v _ _. end_on _ (subversion_end (eqb v 1) (p + 1)) λ a q h.
    end_on _ (tara_end (eqb v 1) q) λ x r k.
    end_field Open 1 _ λ f _ _. end_need _ 6 1 λ _. end_field Open 6 _ λ n _ _. end_field Open 4 _ λ m l _.
    end_give (omega arith, λ g t. simp (length-append, length-bits_of) (omega arith))

length_end : (t u : Bool) (p : ℕ)
    → Ends (λ b q. p + length (cond t (cond u (value_bits b) (group_bits b)) []) ≤ q)
    (choose t (choose u latm_get_value (groups_from 4 0)) (give 0)) p
length_end t u p =
    end_choose t (λ e. rw e (end_choose u (λ f. rw f (end_map (λ x q (h, _). h) (value_end p)))
    (λ f. rw f (groups_end p)))) (λ e. rw e (end_give (omega arith)))

crc_end : (t : Bool) (p : ℕ) → Ends (λ c q. p + length (cond t (bits_of 8 c) []) ≤ q)
    (choose t (field Open 8) (give 0)) p
crc_end t p =
    end_choose t (λ e. rw e (end_last Open 8 (λ v _ _. simp length-bits_of (omega arith))))
    (λ e. rw e (end_give (omega arith)))

ending_end : (version p : ℕ) → Ends (λ t q. (h : Head) (g : Places) → h.version ≡ version
    → p + length (mux_ending_bits (record_of h g t)) ≤ q) (mux_ending version) p
unfolding mux_ending mux_ending_bits other_length
ending_end version p =
    end_field Open 1 _ λ o _ _. end_on _ (length_end (eqb o 1) (eqb version 1) (p + 1)) λ b q h.
    end_field Open 1 _ λ c _ _. end_on _ (crc_end (eqb c 1) (q + 1)) λ x r k.
    end_give (λ d g e. rw e (simp (length-append, length-bits_of) (omega arith)))

-- ---- the record

pub mux_end : (p : ℕ) → Ends (λ r q. p + length (mux_bits r) ≤ q) stream_mux_config p
unfolding stream_mux_config mux_bits
mux_end p =
    end_on _ (head_end p) λ h q (few, a).
    end_on _ (programs_end h.version (h.programs + 1) 0 0 no_places q refl refl (omega arith)) λ g r (_, _, b).
    end_on _ (ending_end h.version r) λ t u c. end_give (simp length-append (omega (arith, a g t, b, c h g refl)))
