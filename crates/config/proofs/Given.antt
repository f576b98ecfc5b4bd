-- What is read of StreamMuxConfig is a valid record, with its 16 places and its numbers of 32 bits.
use mathlib.Core.Path.{◌≡◌, refl, sym, ◌∙◌}
use mathlib.Core.Bool.{Bool, true, false}
use mathlib.Core.List.{List}
use Prim.Native.Nat.{ℕ, zero, suc, ◌+◌, ◌-◌, ◌^◌, ◌<◌, ◌≤◌}
use native.Mathlib.Nat.{add-zero}
use native.Mathlib.Omega.{arith}
use lib.Dec.{eqb}
use lib.ListN.{length, get_or, set, length-set, get_or-replicate}
use lib.Pow.{pow_mono}
use lib.Seq.{get_or-set_same, get_or-set_other}
use borrow.Author.Tests.{eqb-true, eqb-false, leb-true}
use Rattle.kernel.specs.Reading.{Reading, give, choose}
use Rattle.kernel.proofs.Kept.{Kept, gives, refuses, either, so, a_field, a_pass, a_place, a_need, on, then}
use Rattle.kernel.proofs.Tests.{both}
use Rattle.records.specs.declared.Config.{Config}
use Rattle.records.specs.declared.Stream.{Stream}
use Rattle.records.specs.declared.Record.{Record}
use Rattle.records.specs.Blank.{no_stream}
use Rattle.records.specs.Table.{streams_in}
use Rattle.records.specs.Valid.{valid_config, valid_fixed, valid_stream, valid_of}
use Rattle.records.proofs.Apart.{FixedOk, of_type_0, of_type_1, fixed_valid, record_valid}
use Rattle.records.proofs.Tables.{streams_more, streams_end}
use Rattle.numbers.proofs.Given.{Wide, get_value, groups_from_law}
use Rattle.asc.proofs.Given.{Numbered, Configured, asc}
use Rattle.config.specs.declared.Head.{Head}
use Rattle.config.specs.declared.Ending.{Ending}
use Rattle.config.specs.declared.Places.{Places}
use Rattle.config.specs.Mux.{windowed, configuration, frame_length, sent_or_same, layer, config_at, layers, num_layer}
use Rattle.config.specs.Mux.{programs}
use Rattle.config.specs.Mux.{mux_version_a, mux_head, other_length, mux_ending, no_places, record_of, stream_mux_config}

-- ---- a stream

in_window : Kept Numbered (Configured 1) windowed
unfolding windowed
in_window =
    on _ get_value λ n _. on _ a_place λ p _. on _ (asc _) λ c h. on _ a_place λ q _. then (a_pass _ _) λ _ _. gives h

a_configuration : (version : ℕ) → version ≤ 1 → Kept Numbered (Configured version) (configuration version)
unfolding configuration
a_configuration version l =
    either _ (λ e. let q : version ≡ 1 = eqb-true version 1 e in rw q in_window)
    (λ e. let n : version ≡ 1 → ⊥ = eqb-false version 1 e in let q : version ≡ 0 = omega arith in rw q (asc _))

abbrev Streamed : ℕ → Stream → Type 0
Streamed version s = valid_stream version s ≡ true

streamed : (version kind fullness fixed : ℕ) (c : Config) → Configured version c → FixedOk kind fullness fixed
    → Streamed version (record { config = c; kind = kind; fullness = fullness; fixed = fixed })
streamed version kind fullness fixed c h k = rw (h, fixed_valid kind fullness fixed k)

frame_length_law : (version : ℕ) (c : Config) → Configured version c → Kept Numbered (Streamed version) (frame_length c)
unfolding frame_length
frame_length_law version c h =
    on _ (a_field _ _) λ t _.
    either _ (λ _. on _ (a_field _ _) λ v l. gives (streamed version 0 v 0 c h (of_type_0 refl (omega arith) refl)))
    (λ _. either _ (λ _. on _ (a_field _ _) λ x l.
    gives (streamed version 1 0 x c h (of_type_1 refl refl (omega arith)))) (λ _. refuses refl))

sent_or_same_law : (version : ℕ) (c : Config) → version ≤ 1 → Configured version c
    → Kept Numbered (Configured version) (sent_or_same version c)
unfolding sent_or_same
sent_or_same_law version c l h = on _ (a_field _ _) λ same _. either _ (λ _. gives h) (λ _. a_configuration version l)

-- the configuration before counts only after the first stream
a_layer : (version next : ℕ) (c : Config) → version ≤ 1 → ((next ≡ 0 → ⊥) → Configured version c)
    → Kept Numbered (Streamed version) (layer version next c)
unfolding layer
a_layer version next c l h =
    on _ (either _ (λ _. a_configuration version l) (λ e. sent_or_same_law version c l (h (eqb-false next 0 e)))) λ d k.
    frame_length_law version d k

-- ---- the streams

-- of 16 places, the first `next` are sent
record Filled (version next : ℕ) (ss : List Stream) : Type 0 where
  places : length ss ≡ 16
  sent : (i : ℕ) → i < next → Streamed version (get_or ss i no_stream)
  blank : (i : ℕ) → next ≤ i → i < 16 → get_or ss i no_stream ≡ no_stream

config_before : (version next : ℕ) (ss : List Stream) → Filled version next ss → (next ≡ 0 → ⊥)
    → Configured version (config_at ss (next - 1))
config_before version next ss h n =
    let s = get_or ss (next - 1) no_stream in
    (both (valid_config version s.config) (valid_fixed s.kind s.fullness s.fixed)
    (h.sent (next - 1) (omega arith))).0

filled_more : (version next : ℕ) (ss : List Stream) (s : Stream) → next < 16 → Filled version next ss
    → Streamed version s → Filled version (next + 1) (set ss next s)
filled_more version next ss s l h k =
    record {
      places = rw length-set h.places;
      sent = λ i b. more i b (eqb i next) refl;
      blank = λ i b c. rw (get_or-set_other ss next i s no_stream (λ e. omega arith)) (h.blank i (omega arith) c);
    }
  where
    more : (i : ℕ) → i < next + 1 → (t : Bool) → eqb i next ≡ t → Streamed version (get_or (set ss next s) i no_stream)
    more i b true e =
        let q : i ≡ next = eqb-true i next e in rw (q, get_or-set_same ss next s no_stream (omega (arith, h.places))) k
    more i b false e =
        let n : i ≡ next → ⊥ = eqb-false i next e in
        rw (get_or-set_other ss next i s no_stream n) (h.sent i (omega arith))

all_layers : (version n next : ℕ) (ss : List Stream) → version ≤ 1 → next + n ≤ 16 → Filled version next ss
    → Kept Numbered (Filled version (next + n)) (layers version n next ss)
unfolding layers
all_layers version zero next ss l few h = gives (rw add-zero h)
all_layers version (suc n) next ss l few h =
    on _ (a_layer version next _ l (config_before version next ss h)) λ s k.
    let e : next + suc n ≡ next + 1 + n = omega arith in
    rw e (all_layers version n (next + 1) (set ss next s) l (omega arith)
    (filled_more version next ss s (omega arith) h k))

-- ---- the programs

-- of numProgram `last`, the first p programs are read
record Begun (version last p next : ℕ) (g : Places) : Type 0 where
  places : length g.layers ≡ 16
  sent : (q : ℕ) → q < p → get_or g.layers q 0 ≤ 7
  blank : (q : ℕ) → p ≤ q → q < 16 → get_or g.layers q 0 ≡ 0
  count : streams_in g.layers last p ≡ next
  few : next ≤ 16
  streams : Filled version next g.streams

begun_more : (version last p next k : ℕ) (g : Places) (ss : List Stream) → p ≤ last → last ≤ 15 → k < 8
    → next + (k + 1) ≤ 16
    → Begun version last p next g → Filled version (next + (k + 1)) ss
    → Begun version last (p + 1) (next + (k + 1)) (record { layers = set g.layers p k; streams = ss })
begun_more version last p next k g ss l few small count h f =
    record {
      places = rw length-set h.places;
      sent = λ q b. more q b (eqb q p) refl;
      blank = λ q b c. rw (get_or-set_other g.layers p q k 0 (λ e. omega arith)) (h.blank q (omega arith) c);
      count = rw (streams_more g.layers last p k l (omega (arith, h.places)), h.count);
      few = count;
      streams = f;
    }
  where
    more : (q : ℕ) → q < p + 1 → (t : Bool) → eqb q p ≡ t → get_or (set g.layers p k) q 0 ≤ 7
    more q b true e =
        let z : q ≡ p = eqb-true q p e in
        rw (z, get_or-set_same g.layers p k 0 (omega (arith, h.places))) (omega arith)
    more q b false e =
        let n : q ≡ p → ⊥ = eqb-false q p e in rw (get_or-set_other g.layers p q k 0 n) (h.sent q (omega arith))

-- all of them
record Placed (version last : ℕ) (g : Places) : Type 0 where
  next : ℕ
  begun : Begun version last (last + 1) next g

pub few_layers : (next : ℕ) → Kept Numbered (λ k. (k < 2 ^ 3) × (next + (k + 1) ≤ 16)) (num_layer next)
unfolding num_layer
few_layers next =
    on _ (a_field _ _) λ k small. then (a_need _ 7 _ refl) λ _ t. gives (small, leb-true (next + (k + 1)) 16 t)

all_programs : (version last n p next : ℕ) (g : Places) → version ≤ 1 → last ≤ 15 → p + n ≡ last + 1
    → Begun version last p next g
    → Kept Numbered (Placed version last) (programs version n p next g)
unfolding programs
all_programs version last zero p next g l few e h =
    let q : p ≡ last + 1 = omega arith in gives (record { next = next; begun = rw q at h })
all_programs version last (suc n) p next g l few e h =
    on _ (few_layers next) λ k (small, c).
    on _ (all_layers version (k + 1) next g.streams l c h.streams) λ ss f.
    all_programs version last n (p + 1) (next + (k + 1)) _ l few (omega arith)
    (begun_more version last p next k g ss (omega arith) few (omega arith) c h f)

-- ---- before and behind them

record HeadOk (h : Head) : Type 0 where
  version : h.version ≤ 1
  subversion : h.subversion ≡ 0
  tara : eqb h.version 1 ≡ false → h.tara ≡ 0
  wide : Wide 32 h.tara
  framing : h.framing ≡ 1
  subframes : h.subframes ≤ 63
  programs : h.programs ≤ 15

-- a number of w bits where a test holds, or 0
abbrev Maybe : Bool → ℕ → ℕ → Type 0
Maybe t w v = (t ≡ false → v ≡ 0) × Wide w v

if_sent : (t : Bool) (w : ℕ) {m : Reading ℕ} → Kept Numbered (Wide w) m
    → Kept Numbered (Maybe t w) (choose t m (give 0))
if_sent t w k =
    either t (λ e. so k λ v h. (λ n. let z : true ≡ false = sym e ∙ n in cc, h))
    (λ _. gives (λ _. refl, omega (arith, pow_mono {i = 0} {j = w} (omega arith))))

subversion : Kept Numbered (λ a. a ≡ 0) mux_version_a
unfolding mux_version_a
subversion = on _ (a_field _ _) λ a _. then (a_need _ 5 _ refl) λ _ e. gives (eqb-true a 0 e)

head : Kept Numbered HeadOk mux_head
unfolding mux_head
head =
    on _ (a_field _ _) λ v lv. on _ (either _ (λ _. subversion) (λ _. gives refl)) λ a z.
    on _ (if_sent _ 32 get_value) λ t ht.
    on _ (a_field _ _) λ f _. then (a_need _ 6 _ refl) λ _ e. on _ (a_field _ _) λ s ls. on _ (a_field _ _) λ n ln.
    gives (record {
      version = omega arith;
      subversion = z;
      tara = ht.0;
      wide = ht.1;
      framing = eqb-true f 1 e;
      subframes = omega arith;
      programs = omega arith;
    })

record EndingOk (t : Ending) : Type 0 where
  other : t.other ≤ 1
  bits : Maybe (eqb t.other 1) 32 t.bits
  checked : t.checked ≤ 1
  crc : Maybe (eqb t.checked 1) 8 t.crc

other_length_law : (version : ℕ) → Kept Numbered (Wide 32) (other_length version)
unfolding other_length
other_length_law version = either _ (λ _. get_value) (λ _. groups_from_law refl 4 0 0 (omega arith))

mux_ending_law : (version : ℕ) → Kept Numbered EndingOk (mux_ending version)
unfolding mux_ending
mux_ending_law version =
    on _ (a_field _ _) λ o lo. on _ (if_sent _ 32 (other_length_law version)) λ b hb. on _ (a_field _ _) λ c lc.
    on _ (if_sent _ 8 (a_field _ _)) λ d hd.
    gives (record { other = omega arith; bits = hb; checked = omega arith; crc = hd })

-- ---- the record

pub record ReadOk (r : Record) : Type 0 where
  pub valid : valid_of r ≡ true
  pub layers : length r.layers ≡ 16
  pub streams : length r.streams ≡ 16
  pub tara : r.tara < 2 ^ 32
  pub bits : r.bits < 2 ^ 32

nothing_begun : (version last : ℕ) → Begun version last 0 0 no_places
unfolding streams_in
nothing_begun version last = record {
  places = refl;
  sent = λ q l. absurd (omega arith);
  blank = λ q _ l. get_or-replicate 16 q 0 0 l;
  count = refl;
  few = omega arith;
  streams =
      record {
        places = refl;
        sent = λ i l. absurd (omega arith);
        blank = λ i _ l.
            get_or-replicate 16 i no_stream no_stream l;
      };
}

read_ok : (h : Head) (g : Places) (t : Ending) → HeadOk h → Placed h.version h.programs g → EndingOk t
    → ReadOk (record_of h g t)
read_ok h g t hh hg ht =
    let b = hg.begun in
    let all : streams_in g.layers h.programs 16 ≡ hg.next = streams_end g.layers h.programs hh.programs
    ∙ b.count in
    record {
      valid = record_valid (record_of h g t) (record {
        version = hh.version;
        subversion = hh.subversion;
        tara = hh.tara;
        framing = hh.framing;
        subframes = hh.subframes;
        programs = hh.programs;
        other = ht.other;
        bits = ht.bits.0;
        checked = ht.checked;
        unchecked = ht.crc.0;
        crc = omega (arith, ht.crc.1);
        layers = λ p l. b.sent p (omega arith);
        no_layers = λ p l k. b.blank p (omega arith) k;
        count = omega (arith, all, b.few);
        streams = λ i l. b.streams.sent i (omega (arith, all));
        no_streams = λ i l k. b.streams.blank i (omega (arith, all)) k;
      });
      layers = b.places;
      streams = b.streams.places;
      tara = hh.wide;
      bits = ht.bits.1;
    }

pub mux : Kept Numbered ReadOk stream_mux_config
unfolding stream_mux_config
mux =
    on _ head λ h hh. on _ (all_programs _ _ _ 0 0 no_places hh.version hh.programs (omega arith)
    (nothing_begun _ _)) λ g hg. on _ (mux_ending_law _) λ t ht.
    gives (read_ok h g t hh hg ht)
