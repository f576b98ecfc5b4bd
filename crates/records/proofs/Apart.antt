-- What it says of a configuration, a stream and a record that it is valid: the tests taken apart, and put together.
use mathlib.Core.Path.{◌≡◌, refl}
use mathlib.Core.Bool.{Bool, true, false}
use mathlib.Core.List.{List}
use Prim.Native.Nat.{ℕ, ◌<◌, ◌≤◌}
use native.Mathlib.Omega.{arith}
use lib.Dec.{leb, ltb, eqb}
use lib.ListN.{get_or}
use borrow.Author.Tests.{leb-true, ltb-true, ltb-false, le-leb, lt-ltb, le-ltb}
use Rattle.kernel.proofs.Tests.{five, cond_says, chosen_yes, chosen_no, all_of_law, all_yes}
use Rattle.records.specs.declared.Freq.{Freq}
use Rattle.records.specs.declared.Freq.TheVariants.{Index}
use Rattle.records.specs.declared.Form.{Form}
use Rattle.records.specs.declared.Form.TheVariants.{None}
use Rattle.records.specs.declared.Config.{Config}
use Rattle.records.specs.declared.Stream.{Stream}
use Rattle.records.specs.declared.Record.{Record}
use Rattle.records.specs.Blank.{no_stream}
use Rattle.records.specs.Table.{streams_in}
use Rattle.records.specs.Valid.{valid_freq, valid_form, valid_config, valid_fixed, valid_stream, blank_freq, blank_form}
use Rattle.records.specs.Valid.{blank_stream, layers_ok, streams_ok, head_ok, ending_ok, valid_of}

-- ---- a configuration

pub record ConfigOk (version : ℕ) (c : Config) : Type 0 where
  pub core : (1 ≤ c.core) × (c.core ≤ 4)
  pub channels : (1 ≤ c.channels) × (c.channels ≤ 7)
  pub flag : c.flag ≤ 1
  pub depends : c.depends ≡ 0
  pub extension : c.extension ≡ 0
  pub freq : valid_freq c.freq ≡ true
  pub form : valid_form version c.form ≡ true

pub config_ok : (version : ℕ) (c : Config) → valid_config version c ≡ true → ConfigOk version c
config_ok version c p = record {
  core = (grind arith, grind arith);
  channels = (grind arith, grind arith);
  flag = grind arith;
  depends = grind arith;
  extension = grind arith;
  freq = grind arith;
  form = grind arith;
}

pub config_valid : (version : ℕ) (c : Config) → ConfigOk version c → valid_config version c ≡ true
config_valid version c h = grind arith

-- ---- a stream

pub data FixedOk (kind fullness fixed : ℕ) : Type 0 where
  of_type_0 : kind ≡ 0 → fullness ≤ 255 → fixed ≡ 0 → FixedOk kind fullness fixed
  of_type_1 : kind ≡ 1 → fullness ≡ 0 → fixed ≤ 511 → FixedOk kind fullness fixed

pub fixed_ok : (kind fullness fixed : ℕ) → valid_fixed kind fullness fixed ≡ true → FixedOk kind fullness fixed
fixed_ok kind fullness fixed h = go (eqb kind 0) refl
  where
    go : (t : Bool) → eqb kind 0 ≡ t → FixedOk kind fullness fixed
    go true e = of_type_0 (grind arith) (grind arith) (grind arith)
    go false e = of_type_1 (grind arith) (grind arith) (grind arith)

pub fixed_valid : (kind fullness fixed : ℕ) → FixedOk kind fullness fixed → valid_fixed kind fullness fixed ≡ true
fixed_valid kind fullness fixed (of_type_0 e l z) = grind arith
fixed_valid kind fullness fixed (of_type_1 e z l) = grind arith

blank_freq_law : (x : Freq) → blank_freq x ≡ true → x ≡ Index 0
blank_freq_law x h = grind arith

blank_form_law : (m : Form) → blank_form m ≡ true → m ≡ None
blank_form_law m h = grind arith

pub blank_ok : (s : Stream) → blank_stream s ≡ true → s ≡ no_stream
blank_ok s p = grind (arith, blank_freq_law s.config.freq, blank_form_law s.config.form)

-- ---- a record

pub record RecordOk (r : Record) : Type 0 where
  pub version : r.version ≤ 1
  pub subversion : r.subversion ≡ 0
  pub tara : (eqb r.version 1 ≡ false) → r.tara ≡ 0
  pub framing : r.framing ≡ 1
  pub subframes : r.subframes ≤ 63
  pub programs : r.programs ≤ 15
  pub other : r.other ≤ 1
  pub bits : (eqb r.other 1 ≡ false) → r.bits ≡ 0
  pub checked : r.checked ≤ 1
  pub unchecked : (eqb r.checked 1 ≡ false) → r.crc ≡ 0
  pub crc : r.crc ≤ 255
  pub layers : (p : ℕ) → p ≤ r.programs → get_or r.layers p 0 ≤ 7
  pub no_layers : (p : ℕ) → r.programs < p → p < 16 → get_or r.layers p 0 ≡ 0
  pub count : streams_in r.layers r.programs 16 ≤ 16
  pub streams : (i : ℕ) → i < streams_in r.layers r.programs 16
      → valid_stream r.version (get_or r.streams i no_stream) ≡ true
  pub no_streams : (i : ℕ) → streams_in r.layers r.programs 16 ≤ i → i < 16
      → get_or r.streams i no_stream ≡ no_stream

streams_sent : (v n : ℕ) (ss : List Stream) → streams_ok v n ss ≡ true → n ≤ 16 → (i : ℕ) → i < n
    → valid_stream v (get_or ss i no_stream) ≡ true
streams_sent v n ss h l i k =
    chosen_yes (ltb i n) (valid_stream v (get_or ss i no_stream)) (blank_stream (get_or ss i no_stream))
    (all_of_law 16 _ h i (omega arith)) (lt-ltb i n k)

streams_not : (v n : ℕ) (ss : List Stream) → streams_ok v n ss ≡ true → (i : ℕ) → n ≤ i → i < 16
    → get_or ss i no_stream ≡ no_stream
streams_not v n ss h i k l =
    blank_ok (get_or ss i no_stream)
    (chosen_no (ltb i n) (valid_stream v (get_or ss i no_stream)) (blank_stream (get_or ss i no_stream)) (all_of_law 16 _ h i l)
    (le-ltb i n k))

by_parts : (r : Record) → head_ok r ≡ true → ending_ok r ≡ true → layers_ok r.layers r.programs ≡ true
    → streams_in r.layers r.programs 16 ≤ 16
    → streams_ok r.version (streams_in r.layers r.programs 16) r.streams ≡ true → RecordOk r
by_parts r h e l n s =
    let few : r.programs ≤ 15 = grind arith in
    record {
      version = grind arith;
      subversion = grind arith;
      tara = λ v. grind arith;
      framing = grind arith;
      subframes = grind arith;
      programs = grind arith;
      other = grind arith;
      bits = λ o. grind arith;
      checked = grind arith;
      unchecked = λ o. grind arith;
      crc = grind arith;
      layers = λ p k. let t = all_of_law 16 _ l p (omega arith) in grind arith;
      no_layers = λ p k b. let t = all_of_law 16 _ l p b in grind arith;
      count = n;
      streams = streams_sent r.version _ r.streams s n;
      no_streams = streams_not r.version _ r.streams s;
    }

pub record_ok : (r : Record) → valid_of r ≡ true → RecordOk r
record_ok r h =
    let n = streams_in r.layers r.programs 16 in
    let q =
    five (head_ok r) (ending_ok r) (layers_ok r.layers r.programs) (leb n 16)
    (streams_ok r.version n r.streams) h in
    by_parts r q.0 q.1 q.2 (leb-true n 16 q.3) q.4

head_valid : (r : Record) → RecordOk r → head_ok r ≡ true
head_valid r h = grind arith

ending_valid : (r : Record) → RecordOk r → ending_ok r ≡ true
ending_valid r h = grind arith

layers_valid : (r : Record) → RecordOk r → layers_ok r.layers r.programs ≡ true
layers_valid r h = all_yes 16 _ λ p l. let y = h.layers p in let n = h.no_layers p in grind arith

streams_valid : (r : Record) → RecordOk r
    → streams_ok r.version (streams_in r.layers r.programs 16) r.streams ≡ true
streams_valid r h =
    let n = streams_in r.layers r.programs 16 in
    all_yes 16 _ λ i l.
    cond_says (◌≡ true) (ltb i n) (valid_stream r.version (get_or r.streams i no_stream))
    (blank_stream (get_or r.streams i no_stream))
    (λ e. h.streams i (ltb-true i n e))
    (λ e. rw (h.no_streams i (ltb-false i n e) l))

pub record_valid : (r : Record) → RecordOk r → valid_of r ≡ true
record_valid r h =
    rw (
      head_valid r h,
      ending_valid r h,
      layers_valid r h,
      le-leb (streams_in r.layers r.programs 16) 16
          h.count,
    ) (streams_valid r h)
