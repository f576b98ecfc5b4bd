-- No reading gives a configuration from fewer bits than are written for it, and none passes its window.
use mathlib.Core.Path.{◌≡◌, refl}
use mathlib.Core.Bool.{Bool, true, false, cond}
use Prim.Native.Nat.{ℕ, ◌+◌, ◌≤◌}
use native.Mathlib.Omega.{arith}
use lib.Dec.{leb, eqb}
use lib.ListN.{length, length-append}
use Rattle.kernel.specs.declared.Window.{Window}
use Rattle.kernel.specs.Trip.{InWindow}
use Rattle.kernel.proofs.Bits.{length-bits_of}
use Rattle.records.specs.declared.Freq.{Freq}
use Rattle.records.specs.declared.Form.{Form}
use Rattle.records.specs.declared.Form.TheVariants.{None, Type5, Type29, Flag0, Flag1, FlagPs}
use Rattle.records.specs.declared.Config.{Config}
use Rattle.asc.specs.Asc.{is_core, object_type, any_type, hertz, frequency, freq_bits, channel_configuration, unset}
use Rattle.asc.specs.Asc.{left, ps_extension, ps_tail, sbr_extension, extension_type, sync_extension, tail, tail_bits}
use Rattle.asc.specs.Asc.{in_front, ga_specific_config, config_of, alone, under_front, audio_specific_config, front_bits}
use Rattle.asc.specs.Asc.{under_bits, asc_bits}
use Rattle.kernel.proofs.Ends.{Ends, end_give, end_refuse, end_refuse_after, end_choose, end_need, end_here, end_field}
use Rattle.kernel.proofs.Ends.{end_on, end_map}

-- ---- how many bits are written

-- of what stands for the form: between channelConfiguration and the flags, and behind them
form_length : Form → ℕ
form_length m = length (under_bits 0 m) + length (tail_bits m)

front_length : (core : ℕ) (m : Form)
    → length (front_bits core m) + length (under_bits core m) + length (tail_bits m) ≡ 5 + form_length m
unfolding front_bits under_bits form_length
front_length core None = simp length-bits_of (omega arith)
front_length core (Type5 x) = simp (length-append, length-bits_of) (omega arith)
front_length core (Type29 x) = simp (length-append, length-bits_of) (omega arith)
front_length core Flag0 = simp length-bits_of (omega arith)
front_length core (Flag1 x) = simp length-bits_of (omega arith)
front_length core (FlagPs x f) = simp length-bits_of (omega arith)

flag_form : (x : Freq) → form_length (Flag1 x) ≡ 17 + length (freq_bits x)
unfolding form_length under_bits tail_bits
flag_form x = simp (length-append, length-bits_of) (omega arith)

front_form : (t : ℕ) (x : Freq) → form_length (in_front t x) ≡ length (freq_bits x) + 5
unfolding form_length under_bits tail_bits
front_form t x = go (eqb t 5)
  where
    go : (b : Bool) → length (under_bits 0 (cond b (Type5 x) (Type29 x)))
        + length (tail_bits (cond b (Type5 x) (Type29 x))) ≡ length (freq_bits x) + 5
    go true = simp (length-append, length-bits_of) (omega arith)
    go false = simp (length-append, length-bits_of) (omega arith)

config_length : (c : Config) → length (asc_bits c) ≡ 12 + length (freq_bits c.freq) + form_length c.form
unfolding asc_bits
config_length c = simp (length-append, length-bits_of) (omega (arith, front_length c.core c.form))

-- ---- the productions

module _ (win : Window) where
  type_end : (carried : ℕ → Bool) (p : ℕ) → Ends (λ t q. (q ≡ p + 5) × InWindow win q) (object_type carried win) p
  unfolding object_type
  type_end carried p =
      end_field win 5 _ λ t _ i. end_choose (eqb t 31) (λ _. end_refuse_after)
      (λ _. end_need _ 8 5 λ _. end_give (refl, i))

  any_end : (p : ℕ) → Ends (λ t q. (p + 5 ≤ q) × InWindow win q) (any_type win) p
  unfolding any_type
  any_end p =
      end_field win 5 _ λ t _ i. end_choose (eqb t 31) (λ _. end_field win 6 _ λ x _ j. end_give (omega arith, j))
      (λ _. end_give (omega arith, i))

  hertz_end : (p : ℕ) → Ends (λ f q. (p + length (freq_bits f) ≤ q + 4) × InWindow win q) (hertz win) p
  unfolding hertz freq_bits
  hertz_end p =
      end_field win 24 _ λ h _ i. end_need _ 9 24 λ _. end_give (simp (length-append, length-bits_of) (omega arith), i)

  rate_end : (p : ℕ) → Ends (λ f q. (p + length (freq_bits f) ≤ q) × InWindow win q) (frequency win) p
  unfolding frequency freq_bits
  rate_end p =
      end_field win 4 _ λ n _ i.
      end_choose (leb n 12) (λ _. end_give (simp length-bits_of (omega arith), i))
      (λ _. end_choose (eqb n 15) (λ _. end_map (λ f q (h, j). (omega arith, j)) (hertz_end (p + 4))) (λ _. end_refuse))

  channels_end : (p : ℕ) → Ends (λ c q. (q ≡ p + 4) × InWindow win q) (channel_configuration win) p
  unfolding channel_configuration
  channels_end p = end_field win 4 _ λ c _ i. end_need _ 11 4 λ _. end_give (refl, i)

  unset_end : (p : ℕ) → Ends (λ f q. (q ≡ p + 1) × InWindow win q) (unset win) p
  unfolding unset
  unset_end p = end_field win 1 _ λ f _ i. end_need _ 12 1 λ _. end_give (refl, i)

  flags_end : (p : ℕ) → Ends (λ g q. (q ≡ p + 3) × InWindow win q) (ga_specific_config win) p
  unfolding ga_specific_config
  flags_end p =
      end_field win 1 _ λ flag _ _. end_on _ (unset_end (p + 1)) λ d q (e, _). end_on _ (unset_end q) λ x r (f, i).
      end_give (omega arith, i)

  -- behind a flag 1 and its frequency
  ps_end : (x : Freq) (p : ℕ) → Ends (λ m q. (p + form_length m ≤ q + form_length (Flag1 x))
      × InWindow win q) (ps_extension x win) p
  unfolding ps_extension form_length under_bits tail_bits
  ps_end x p =
      end_field win 11 _ λ s _ i.
      end_choose (eqb s 1352) (λ _. end_field win 1 _ λ f _ j.
      end_give (simp (length-append, length-bits_of) (omega arith), j)) (λ _. end_give (omega arith, i))

  ps_tail_end : (x : Freq) (p : ℕ) → InWindow win p
      → Ends (λ m q. (p + form_length m ≤ q + form_length (Flag1 x)) × InWindow win q) (ps_tail x win) p
  unfolding ps_tail
  ps_tail_end x p i = end_here _ (end_choose (leb 12 (left win p)) (λ _. ps_end x p) (λ _. end_give (omega arith, i)))

  sbr_end : (p : ℕ) → Ends (λ m q. (p + form_length m ≤ q + 16) × InWindow win q) (sbr_extension win) p
  unfolding sbr_extension form_length under_bits tail_bits
  sbr_end p =
      end_field win 1 _ λ f _ i.
      end_choose (eqb f 1)
      (λ _. end_on _ (rate_end (p + 1)) λ x q (h, j).
      end_map (λ m r (k, o). (omega (arith, flag_form x), o)) (ps_tail_end x q j))
      (λ _. end_give (simp (length-append, length-bits_of) (omega arith), i))

  extension_end : (p : ℕ) → Ends (λ m q. (p + form_length m ≤ q + 11) × InWindow win q) (extension_type win) p
  unfolding extension_type form_length under_bits tail_bits
  extension_end p =
      end_on _ (any_end p) λ t q (h, i).
      end_choose (eqb t 5) (λ _. end_map (λ m r (k, o). (omega arith, o)) (sbr_end q))
      (λ _. end_choose (eqb t 22) (λ _. end_refuse) (λ _. end_give (omega arith, i)))

  sync_end : (p : ℕ) → Ends (λ m q. (p + form_length m ≤ q) × InWindow win q) (sync_extension win) p
  unfolding sync_extension form_length under_bits tail_bits
  sync_end p =
      end_field win 11 _ λ s _ i. end_choose (eqb s 695)
      (λ _. end_map (λ m r (k, o). (omega arith, o)) (extension_end (p + 11))) (λ _. end_give (omega arith, i))

  tail_end : (p : ℕ) → InWindow win p → Ends (λ m q. (p + form_length m ≤ q) × InWindow win q) (tail win) p
  unfolding tail form_length under_bits tail_bits
  tail_end p i = end_here _ (end_choose (leb 16 (left win p)) (λ _. sync_end p) (λ _. end_give (omega arith, i)))

  -- behind the type in front, the frequency and channelConfiguration
  alone_end : (t : ℕ) (f : Freq) (c p : ℕ)
      → Ends (λ x q. (p + length (asc_bits x) ≤ q + 9 + length (freq_bits f)) × InWindow win q) (alone t f c win) p
  unfolding alone
  alone_end t f c p =
      end_on _ (flags_end p) λ g q (e, i). end_on _ (tail_end q i) λ m r (h, j).
      end_give (omega (arith, config_length (config_of t f c g m)), j)

  under_end : (t : ℕ) (f : Freq) (c p : ℕ)
      → Ends (λ x q. (p + length (asc_bits x) ≤ q + 9 + length (freq_bits f)) × InWindow win q) (under_front t f c win) p
  unfolding under_front
  under_end t f c p =
      end_on _ (rate_end p) λ x q (h, _). end_on _ (type_end is_core q) λ core r (e, _).
      end_on _ (flags_end r) λ g u (d, i).
      end_give (omega (arith, config_length (config_of core f c g (in_front t x)), front_form t x), i)

  pub asc_end : (p : ℕ) → Ends (λ c q. (p + length (asc_bits c) ≤ q) × InWindow win q) (audio_specific_config win) p
  unfolding audio_specific_config
  asc_end p =
      end_on _ (type_end _ p) λ t q (e, _). end_on _ (rate_end q) λ f r (h, _). end_on _ (channels_end r) λ c u (d, _).
      end_choose (is_core t) (λ _. end_map (λ x v (k, i). (omega arith, i)) (alone_end t f c u))
      (λ _. end_map (λ x v (k, i). (omega arith, i)) (under_end t f c u))
