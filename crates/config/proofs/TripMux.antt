-- What is written of a record reads back: StreamMuxConfig.
use mathlib.Core.Path.{◌≡◌, refl, ap, subst, ◌∙◌}
use mathlib.Core.Bool.{Bool, true, false, cond}
use mathlib.Core.List.{List, [], ◌++◌}
use Prim.Native.Nat.{ℕ, zero, suc, ◌+◌, ◌-◌, ◌*◌, ◌^◌, ◌<◌, ◌≤◌}
use native.Mathlib.Nat.{add-zero, sub_self}
use native.Mathlib.Omega.{arith}
use lib.Dec.{eqb}
use lib.ListN.{length, get_or, length-append}
use borrow.Author.Tests.{le-leb, eq-eqb, eqb-true, eqb-false}
use Rattle.kernel.specs.declared.Window.TheVariants.{Open, UpTo}
use Rattle.kernel.specs.Bits.{bits_of, Holds}
use Rattle.kernel.specs.Reading.{give, pass, here, choose, ◌>>=◌, ◌>>◌, run}
use Rattle.kernel.specs.Trip.{Gives, Reads}
use Rattle.kernel.proofs.Held.{holds_left, holds_right}
use Rattle.kernel.proofs.Tests.{both}
use Rattle.kernel.proofs.Trip.{reads_give, reads_here, reads_field, reads_pass, reads_bind, reads_on, reads_then}
use Rattle.kernel.proofs.Trip.{reads_window, reads_yes, reads_no, reads_need, reads_both, reads_last, reads_maybe}
use Rattle.records.specs.declared.Config.{Config}
use Rattle.records.specs.declared.Stream.{Stream}
use Rattle.records.specs.declared.Record.{Record}
use Rattle.records.specs.Blank.{no_stream}
use Rattle.records.specs.Same.{same_config}
use Rattle.records.specs.Table.{streams_in}
use Rattle.records.specs.Valid.{valid_config, valid_fixed, valid_stream, valid_of}
use Rattle.config.specs.declared.Head.{Head}
use Rattle.config.specs.declared.Ending.{Ending}
use Rattle.config.specs.declared.Places.{Places}
use Rattle.numbers.specs.Values.{latm_get_value, value_bits, groups_from, group_bits}
use Rattle.asc.specs.Asc.{audio_specific_config, asc_bits}
use Rattle.config.specs.Mux.{windowed, configuration, config_bits, frame_length, frame_length_bits, sent_or_same, layer}
use Rattle.config.specs.Mux.{layer_bits, config_at, layers, layers_bits, num_layer, programs, programs_bits}
use Rattle.config.specs.Mux.{mux_version_a}
use Rattle.config.specs.Mux.{mux_head, mux_head_bits, other_length, mux_ending, mux_ending_bits, no_places}
use Rattle.config.specs.Mux.{stream_mux_config, mux_bits}
use Rattle.records.proofs.Apart.{FixedOk, of_type_0, of_type_1, fixed_ok, RecordOk, record_ok}
use Rattle.records.proofs.Tables.{streams_next, streams_upto, streams_end}
use Rattle.records.proofs.Theorems.{same_means_equal}
use Rattle.config.proofs.Begun.{begun, begun_more, begun_last, begun_all}
use Rattle.numbers.proofs.Trip.{value_trip, groups_trip}
use Rattle.asc.proofs.TripAsc.{asc_short, open_trip, window_trip}

-- ---- a configuration in its window

rest_trip : (c : Config) (p : ℕ) → valid_config 1 c ≡ true
    → Reads Open p (audio_specific_config (UpTo (p + length (asc_bits c))) >>= λ x. here >>= λ q.
    pass Open (p + length (asc_bits c) - q) >> give x) (asc_bits c) c
rest_trip c p v =
    reads_then _ (reads_window (UpTo (p + length (asc_bits c))) (omega arith) (window_trip c p v))
    (reads_here _ (rw sub_self (reads_both (reads_pass [] refl) reads_give)))

pub windowed_trip : (c : Config) (at : ℕ) → valid_config 1 c ≡ true → Reads Open at windowed (config_bits 1 c) c
unfolding windowed config_bits
windowed_trip c at v =
    reads_bind _ (value_trip at (length (asc_bits c)) (omega (arith, asc_short c)))
    (reads_here _ (rest_trip c (at + length (value_bits (length (asc_bits c)))) v))

-- which leaves no bit of the window
pub no_fill_trip : (c : Config) (s : List ℕ) (at n : ℕ) → valid_config 1 c ≡ true → Holds s at (config_bits 1 c)
    → at + length (config_bits 1 c) ≤ 8 * length s
    → let len = length (asc_bits c) in let p = at + length (value_bits len) in
    Gives (run s latm_get_value at n) len p × Gives (run s (audio_specific_config (UpTo (p + len))) p n) c (p + len)
unfolding config_bits
no_fill_trip c s at n v h l =
    let len = length (asc_bits c) in
    let k : at + length (value_bits len ++ asc_bits c)
    ≡ at + length (value_bits len) + len = simp length-append (omega arith) in (
      (value_trip at len (omega (arith, asc_short c))).gives s n (holds_left s at (value_bits len) (asc_bits c) h)
          (omega (arith, k)) tt,
      (window_trip c (at + length (value_bits len)) v).gives s n (holds_right s at (value_bits len) (asc_bits c) h)
          (omega (arith, k)) (omega arith),
    )

bare_trip : (c : Config) (at : ℕ) → valid_config 0 c ≡ true → Reads Open at (audio_specific_config Open) (config_bits 0 c) c
unfolding config_bits
bare_trip c at v = open_trip c at v

config_trip : (version : ℕ) (c : Config) (at : ℕ) → version ≤ 1 → valid_config version c ≡ true
    → Reads Open at (configuration version) (config_bits version c) c
unfolding configuration
config_trip version c at l v = go (eqb version 1) refl
  where
    go : (t : Bool) → eqb version 1 ≡ t → Reads Open at (configuration version) (config_bits version c) c
    go true e =
        let q : version ≡ 1 = eqb-true version 1 e in
        reads_yes _ e (rw q (windowed_trip c at (rw q at v)))
    go false e =
        let n : version ≡ 1 → ⊥ = eqb-false version 1 e in
        let q : version ≡ 0 = omega arith in
        reads_no _ e (rw q (bare_trip c at (rw q at v)))

-- ---- a stream

frame_length_trip : (c : Config) (at kind fullness fixed : ℕ) → FixedOk kind fullness fixed
    → Reads Open at (frame_length c)
    (frame_length_bits (record { config = c; kind = kind; fullness = fullness; fixed = fixed }))
    (record { config = c; kind = kind; fullness = fullness; fixed = fixed })
unfolding frame_length frame_length_bits
frame_length_trip c at kind fullness fixed (of_type_0 e l z) =
    rw (e, z) (reads_on 3 0 _ (omega arith) (reads_yes _ refl (reads_last 8 fullness _ (omega arith) reads_give)))
frame_length_trip c at kind fullness fixed (of_type_1 e z l) =
    rw (e, z) (reads_on 3 1 _ (omega arith)
    (reads_no _ refl (reads_yes _ refl (reads_last 9 fixed _ (omega arith) reads_give))))

-- what is read as the stream before counts only after the first stream
layer_trip : (version next : ℕ) (before last : Config) (s : Stream) (at : ℕ) → version ≤ 1
    → (eqb next 0 ≡ false → before ≡ last)
    → valid_stream version s ≡ true → Reads Open at (layer version next before) (layer_bits version next last s) s
unfolding layer layer_bits sent_or_same
layer_trip version next before last s at l b v = go (eqb next 0) refl (same_config last s.config) refl
  where
    q : (valid_config version s.config ≡ true) × (valid_fixed s.kind s.fullness s.fixed ≡ true)
    q = both (valid_config version s.config) (valid_fixed s.kind s.fullness s.fixed) v

    frame_length_law : (p : ℕ) → Reads Open p (frame_length s.config) (frame_length_bits s) s
    frame_length_law p =
        frame_length_trip s.config p s.kind s.fullness s.fixed
        (fixed_ok s.kind s.fullness s.fixed q.1)

    go : (t : Bool) → eqb next 0 ≡ t → (u : Bool) → same_config last s.config ≡ u
        → Reads Open at (layer version next before) (layer_bits version next last s) s
    go true e u _ =
        rw e (reads_bind _ (reads_yes _ refl (config_trip version s.config at l q.0)) (frame_length_law _))
    go false e true f =
        let z : before ≡ s.config = b e ∙ same_means_equal last s.config f in
        rw (e, f) (reads_bind _ (reads_no _ refl
        (reads_last 1 1 _ (omega arith) (reads_yes _ refl (rw z reads_give)))) (frame_length_law _))
    go false e false f =
        rw (e, f) (reads_bind _ (reads_no _ refl
        (reads_on 1 0 _ (omega arith) (reads_no _ refl (config_trip version s.config (at + 1) l q.0))))
        (frame_length_law _))

-- ---- the streams

layers_trip : (version n next : ℕ) (ss : List Stream) (at : ℕ) → version ≤ 1 → length ss ≡ 16 → next + n ≤ 16
    → ((i : ℕ) → i < next + n → valid_stream version (get_or ss i no_stream) ≡ true)
    → Reads Open at (layers version n next (begun no_stream next ss)) (layers_bits version n next ss)
    (begun no_stream (next + n) ss)
unfolding layers layers_bits
layers_trip version zero next ss at l len few v = rw add-zero reads_give
layers_trip version (suc n) next ss at l len few v =
    let e : next + suc n ≡ next + 1 + n = omega arith in
    rw e (reads_bind _ (layer_trip version next (config_at (begun no_stream next ss) (next - 1))
    (config_at ss (next - 1)) (get_or ss next no_stream) at l
    (λ z. let k : next ≡ 0 → ⊥ = eqb-false next 0 z in ap (λ (s : Stream). s.config)
    (begun_last no_stream next (next - 1) ss (omega arith) (omega arith) len))
    (v next (omega arith)))
    (rw (begun_more no_stream next ss (omega arith) len)
    (layers_trip version n (next + 1) ss _ l len (omega arith) (λ i k. v i (omega arith)))))

-- ---- the programs

num_layer_trip : (next at k : ℕ) → k ≤ 7 → next + (k + 1) ≤ 16 → Reads Open at (num_layer next) (bits_of 3 k) k
unfolding num_layer
num_layer_trip next at k small few =
    reads_last 3 k _ (omega arith) (reads_need 7 3 (le-leb (next + (k + 1)) 16 few) reads_give)

module _ (version last : ℕ) (ks : List ℕ) (ss : List Stream) (l : version ≤ 1) (kl : length ks ≡ 16) (sl : length ss
    ≡ 16) (few : last ≤ 15)
    (small : (p : ℕ) → p ≤ last → get_or ks p 0 ≤ 7) (count : streams_in ks last 16 ≤ 16)
    (valid : (i : ℕ) → i < streams_in ks last 16 → valid_stream version (get_or ss i no_stream) ≡ true) where
  places_to : ℕ → Places
  places_to p = record { layers = begun 0 p ks; streams = begun no_stream (streams_in ks last p) ss }

  programs_trip : (n p at : ℕ) → p + n ≡ last + 1
      → Reads Open at (programs version n p (streams_in ks last p) (places_to p))
      (programs_bits version n p (streams_in ks last p) ks ss) (places_to (last + 1))
  unfolding programs programs_bits places_to
  programs_trip zero p at e = let q : last + 1 ≡ p = omega arith in rw q reads_give
  programs_trip (suc n) p at e =
      let k = get_or ks p 0 in
      let more : streams_in ks last p + (k + 1) ≡ streams_in ks last (p + 1) = streams_next ks last p (omega arith) in
      let all : streams_in ks last (p + 1) ≤ streams_in ks last 16 = streams_upto ks last (p + 1) 16 (omega arith) in
      reads_bind _ (num_layer_trip (streams_in ks last p) at k (small p (omega arith)) (omega arith))
      (reads_bind _ (layers_trip version (k + 1) (streams_in ks last p) ss _ l sl (omega arith)
      (λ i h. valid i (omega arith)))
      (rw (more, begun_more 0 p ks (omega arith) kl) (programs_trip n (p + 1) _ (omega arith))))

-- ---- what stands before and behind them

head_of : Record → Head
head_of r =
    record {
      version = r.version;
      subversion = r.subversion;
      tara = r.tara;
      framing = r.framing;
      subframes =
          r.subframes;
      programs = r.programs;
    }

ending_of : Record → Ending
ending_of r = record { other = r.other; bits = r.bits; checked = r.checked; crc = r.crc }

subversion_trip : (at a : ℕ) → a ≡ 0 → Reads Open at mux_version_a (bits_of 1 a) a
unfolding mux_version_a
subversion_trip at a e = reads_last 1 a _ (omega arith) (reads_need 5 1 (eq-eqb a 0 e) reads_give)

head_trip : (r : Record) (at : ℕ) → RecordOk r → r.tara < 2 ^ 32 → Reads Open at mux_head (mux_head_bits r) (head_of r)
unfolding mux_head mux_head_bits head_of
head_trip r at h l =
    reads_on 1 r.version _ (omega (arith, h.version))
    (reads_bind _ (reads_maybe (eqb r.version 1) 0 (λ _. subversion_trip (at + 1) r.subversion h.subversion)
    (λ _. h.subversion))
    (reads_bind _ (reads_maybe (eqb r.version 1) 0 (λ _. value_trip _ r.tara l) h.tara)
    (reads_on 1 r.framing _ (omega (arith, h.framing)) (reads_need 6 1 (eq-eqb r.framing 1 h.framing)
    (reads_on 6 r.subframes _ (omega (arith, h.subframes))
    (reads_last 4 r.programs _ (omega (arith, h.programs)) reads_give))))))

length_trip : (at v : ℕ) (t : Bool) → v < 2 ^ 32
    → Reads Open at (choose t latm_get_value (groups_from 4 0)) (cond t (value_bits v) (group_bits v)) v
length_trip at v true l = reads_yes _ refl (value_trip at v l)
length_trip at v false l = reads_no _ refl (groups_trip at v l)

ending_trip : (r : Record) (at : ℕ) → RecordOk r → r.bits < 2 ^ 32
    → Reads Open at (mux_ending r.version) (mux_ending_bits r) (ending_of r)
unfolding mux_ending mux_ending_bits other_length ending_of
ending_trip r at h l =
    reads_on 1 r.other _ (omega (arith, h.other))
    (reads_bind _ (reads_maybe (eqb r.other 1) 0 (λ _. length_trip (at + 1) r.bits (eqb r.version 1) l)
    h.bits)
    (reads_on 1 r.checked _ (omega (arith, h.checked))
    (reads_then _ (reads_maybe (eqb r.checked 1) 0 (λ _. reads_field 8 r.crc (omega (arith, h.crc)))
    h.unchecked) reads_give)))

-- ---- the record

places_of : Record → Places
places_of r = record { layers = r.layers; streams = r.streams }

places_trip : (r : Record) (at : ℕ) → length r.layers ≡ 16 → length r.streams ≡ 16 → RecordOk r
    → Reads Open at (programs r.version (r.programs + 1) 0 0 no_places)
    (programs_bits r.version (r.programs + 1) 0 0 r.layers r.streams) (places_of r)
unfolding begun streams_in places_to places_of
places_trip r at kl sl h =
    let n = r.programs in
    let ks : begun 0 (n + 1) r.layers
    ≡ r.layers = begun_all 0 (n + 1) r.layers kl (λ i k. h.no_layers i (omega arith)) in
    let ss : begun no_stream (streams_in r.layers n (n + 1)) r.streams ≡ r.streams =
    rw (← streams_end r.layers n h.programs)
    (begun_all no_stream (streams_in r.layers n 16) r.streams sl h.no_streams) in
    subst (λ (g : Places). Reads Open at (programs r.version (n + 1) 0 0 no_places)
    (programs_bits r.version (n + 1) 0 0 r.layers r.streams) g)
    (λ i. record { layers = ks i; streams = ss i })
    (programs_trip r.version n r.layers r.streams h.version kl sl h.programs h.layers h.count
    h.streams (n + 1) 0 at (omega arith))

pub record_trip : (r : Record) (at : ℕ) → length r.layers ≡ 16 → length r.streams ≡ 16 → r.tara < 2 ^ 32
    → r.bits < 2 ^ 32 → valid_of r ≡ true
    → Reads Open at stream_mux_config (mux_bits r) r
unfolding stream_mux_config mux_bits head_of places_of ending_of
record_trip r at kl sl tara bits v =
    let h = record_ok r v in
    reads_bind _ (head_trip r at h tara)
    (reads_bind _ (places_trip r _ kl sl h) (reads_then _ (ending_trip r _ h bits) reads_give))
