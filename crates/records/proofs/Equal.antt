-- Two configurations, and two records, are called the same exactly when they are equal.
use Rattle.std.proofs.Common.{◌≡◌, Bool, true, ◌&&◌, List, ℕ, length, get_or, arith}
use lib.Dec.{eqb}
use borrow.Author.Tests.{eqb-true}
use Rattle.kernel.proofs.Tests.{three, all_yes, all_same}
use Rattle.records.specs.declared.Freq.{Freq}
use Rattle.records.specs.declared.Freq.TheVariants.{Index, Hz}
use Rattle.records.specs.declared.Form.{Form}
use Rattle.records.specs.declared.Form.TheVariants.{None, Type5, Type29, Flag0, Flag1, FlagPs}
use Rattle.records.specs.declared.Config.{Config}
use Rattle.records.specs.declared.Stream.{Stream}
use Rattle.records.specs.declared.Record.{Record}
use Rattle.records.specs.Blank.{no_stream}
use Rattle.records.specs.Same.{same_freq, same_form, same_config, same_stream, same_layers, same_streams, same_record}

same_freq_eq : (a b : Freq) → same_freq a b ≡ true → a ≡ b
same_freq_eq (Index i) b h = grind arith
same_freq_eq (Hz g) b h = grind arith

same_freq_refl : (a : Freq) → same_freq a a ≡ true
same_freq_refl (Index i) = grind arith
same_freq_refl (Hz h) = grind arith

same_form_eq : (a b : Form) → same_form a b ≡ true → a ≡ b
same_form_eq None b h = grind arith
same_form_eq (Type5 x) b h = grind (arith, same_freq_eq)
same_form_eq (Type29 x) b h = grind (arith, same_freq_eq)
same_form_eq Flag0 b h = grind arith
same_form_eq (Flag1 x) b h = grind (arith, same_freq_eq)
same_form_eq (FlagPs x c) b h = grind (arith, same_freq_eq)

same_form_refl : (a : Form) → same_form a a ≡ true
same_form_refl a = grind (arith, same_freq_refl)

abbrev same_numbers : Config → Config → Bool
same_numbers a b =
    eqb a.core b.core && eqb a.channels b.channels && eqb a.flag b.flag
    && eqb a.depends b.depends
    && eqb a.extension b.extension

by_parts : (a b : Config) → same_numbers a b ≡ true → a.freq ≡ b.freq → a.form ≡ b.form → a ≡ b
by_parts a b n x f = grind arith

pub same_config_eq : (a b : Config) → same_config a b ≡ true → a ≡ b
same_config_eq a b h =
    let s = three (same_numbers a b) (same_freq a.freq b.freq) (same_form a.form b.form) h in
    by_parts a b s.0 (same_freq_eq _ _ s.1) (same_form_eq _ _ s.2)

pub same_config_refl : (a : Config) → same_config a a ≡ true
same_config_refl a = grind (arith, same_freq_refl a.freq, same_form_refl a.form)

-- ---- a stream

pub same_stream_eq : (a b : Stream) → same_stream a b ≡ true → a ≡ b
same_stream_eq a b h = grind (arith, same_config_eq a.config b.config)

pub same_stream_refl : (a : Stream) → same_stream a a ≡ true
same_stream_refl a = grind (arith, same_config_refl a.config)

-- ---- a record

same_layers_eq : (a b : List ℕ) → length a ≡ 16 → length b ≡ 16 → same_layers a b ≡ true → a ≡ b
same_layers_eq = all_same 0 eqb eqb-true 16

same_streams_eq : (a b : List Stream) → length a ≡ 16 → length b ≡ 16 → same_streams a b ≡ true → a ≡ b
same_streams_eq = all_same no_stream same_stream same_stream_eq 16

pub same_record_eq : (a b : Record) → length a.layers ≡ 16 → length b.layers ≡ 16 → length a.streams ≡ 16
    → length b.streams ≡ 16
    → same_record a b ≡ true → a ≡ b
same_record_eq a b ka kb sa sb h =
    grind (arith, same_layers_eq a.layers b.layers ka kb, same_streams_eq a.streams b.streams sa sb)

same_layers_refl : (a : List ℕ) → same_layers a a ≡ true
same_layers_refl a = all_yes 16 _ λ p _. grind arith

same_streams_refl : (a : List Stream) → same_streams a a ≡ true
same_streams_refl a = all_yes 16 _ λ i _. same_stream_refl (get_or a i no_stream)

pub same_record_refl : (a : Record) → same_record a a ≡ true
same_record_refl a = grind (arith, same_layers_refl a.layers, same_streams_refl a.streams)
