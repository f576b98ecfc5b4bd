-- The figures of a valid record's rows.
use mathlib.Core.Path.{◌≡◌, refl}
use mathlib.Core.Bool.{Bool, true, false, cond, ◌&&◌}
use Prim.Native.Nat.{ℕ, ◌+◌, ◌≤◌, ◌<◌}
use native.Mathlib.Omega.{arith}
use lib.ListN.{get_or}
use lib.IntN.{ℤ}
use lib.Dec.{leb, eqb}
use borrow.Author.Tests.{leb-true, leb-false}
use Rattle.kernel.specs.Lists.{all_of}
use Rattle.kernel.proofs.Tests.{both, three, all_of_law}
use Rattle.records.specs.declared.Freq.{Freq}
use Rattle.records.specs.declared.Freq.TheVariants.{Index, Hz}
use Rattle.records.specs.declared.Form.{Form}
use Rattle.records.specs.declared.Form.TheVariants.{None, Type5, Type29, Flag0, Flag1, FlagPs}
use Rattle.records.specs.declared.Stream.{Stream}
use Rattle.records.specs.Blank.{no_stream}
use Rattle.records.specs.Table.{streams_in}
use Rattle.records.specs.Valid.{valid_freq, valid_form, valid_config, valid_fixed, valid_stream}
use Rattle.records.proofs.Apart.{config_ok, record_ok}
use Rattle.records.proofs.Tables.{streams_next, streams_upto}
use Rattle.row.specs.Row.{hz_at, hz_of, is_one, ps_of, output_of, channels_at, output_channels, row_of}
use Rattle.row.specs.Claims.{Carried, RowsAreCarried}
use Rattle.row.proofs.Channels.{few_channels}

abbrev Carries : ℕ → Type 0
Carries hz = (1 ≤ hz) × (hz < 16777216)

tested : (n : ℕ) → (leb 1 n && leb n 16777215) ≡ true → Carries n
tested n h =
    let q = both (leb 1 n) (leb n 16777215) h in (leb-true 1 n q.0, omega (arith, leb-true n 16777215 q.1))

freq_carried : (x : Freq) → valid_freq x ≡ true → Carries (hz_of x)
unfolding all_of
freq_carried (Index i) h =
    tested (hz_at i) (all_of_law 13 (λ (j : ℕ). leb 1 (hz_at j)
    && leb (hz_at j) 16777215) refl i (omega (arith, leb-true i 12 h)))
freq_carried (Hz n) h = tested n h

output_carried : (version core : ℕ) (m : Form) → valid_form version m ≡ true → Carries core → Carries (output_of m core)
output_carried version core None h c = c
output_carried version core (Type5 x) h c = freq_carried x h
output_carried version core (Type29 x) h c = freq_carried x h
output_carried version core Flag0 h c = c
output_carried version core (Flag1 x) h c = freq_carried x (both (eqb version 1) (valid_freq x) h).1
output_carried version core (FlagPs x b) h c = freq_carried x (three (eqb version 1) (valid_freq x) (leb b 1) h).1

abbrev Few : ℕ → Type 0
Few channels = (1 ≤ channels) × (channels ≤ 8)

own_carried : (c : ℕ) → 1 ≤ c → c ≤ 7 → Few (channels_at c)
own_carried c lo hi = go (leb c 6) refl
  where
    go : (t : Bool) → leb c 6 ≡ t → Few (channels_at c)
    go true e = let q = few_channels c (leb-true c 6 e) in (omega arith, omega arith)
    go false e = let q : c ≡ 7 = omega (arith, leb-false c 6 e) in rw q (omega arith, omega arith)

channels_carried : (ps : ℤ) (c : ℕ) → 1 ≤ c → c ≤ 7 → Few (output_channels ps c)
channels_carried ps c lo hi = go (is_one ps && eqb c 1)
  where
    go : (t : Bool) → Few (cond t 2 (channels_at c))
    go true = (omega arith, omega arith)
    go false = own_carried c lo hi

stream_carried : (version p l : ℕ) (s : Stream) → p < 16 → l < 8 → valid_stream version s ≡ true → Carried (row_of p l s)
stream_carried version p l s hp hl h =
    let c =
    config_ok version s.config
    (both (valid_config version s.config) (valid_fixed s.kind s.fullness s.fixed) h).0 in
    let f = freq_carried s.config.freq c.freq in
    record {
      program = hp;
      layer = hl;
      core = c.core;
      rate = f;
      output = output_carried version (hz_of s.config.freq) s.config.form c.form f;
      channels =
          channels_carried (ps_of s.config.form) s.config.channels c.channels.0 c.channels.1;
    }

pub row_carried : RowsAreCarried
row_carried r p l v hp hl =
    let h = record_ok r v in
    let n = streams_next r.layers r.programs p hp in
    let u = streams_upto r.layers r.programs (p + 1) 16 (omega (arith, h.programs)) in
    let i = streams_in r.layers r.programs p + l in
    stream_carried r.version p l (get_or r.streams i no_stream) (omega (arith, h.programs))
    (omega (arith, h.layers p hp))
    (h.streams i (omega (arith, n, u)))
