-- What is read of AudioSpecificConfig is valid, and refused by a number of 01's table.
use mathlib.Core.Path.{◌≡◌, refl}
use mathlib.Core.Bool.{Bool, true, not, ◌&&◌}
use Prim.Native.Nat.{ℕ, ◌≤◌}
use native.Mathlib.Omega.{arith}
use lib.Dec.{leb, eqb}
use borrow.Author.Tests.{leb-true, le-leb, eqb-true}
use Rattle.kernel.specs.declared.Window.{Window}
use Rattle.kernel.specs.declared.Window.TheVariants.{Open, UpTo}
use Rattle.kernel.proofs.Kept.{chosen, Any, Kept, gives, refuses, refuses_after, either, a_field, a_place}
use Rattle.kernel.proofs.Kept.{a_need, on, then}
use Rattle.kernel.proofs.Tests.{both}
use Rattle.records.specs.declared.Freq.{Freq}
use Rattle.records.specs.declared.Form.{Form}
use Rattle.records.specs.declared.Config.{Config}
use Rattle.records.specs.Valid.{valid_freq, valid_form, valid_config}
use Rattle.records.proofs.Apart.{config_valid}
use Rattle.asc.specs.declared.Flags.{Flags}
use Rattle.asc.specs.Asc.{is_core, is_front, object_type, any_type, hertz, frequency, channel_configuration, unset}
use Rattle.asc.specs.Asc.{ps_extension, ps_tail, sbr_extension, extension_type, sync_extension, tail, in_front}
use Rattle.asc.specs.Asc.{ga_specific_config, config_of, alone, under_front, audio_specific_config}

-- the refusals behind the flag of an element: 3, and 5 to 15
abbrev pub Numbered : ℕ → Type 0
Numbered m = (leb 3 m && leb m 15 && not (eqb m 4)) ≡ true

-- ---- frequencies, types and flags

abbrev Channelled : ℕ → Type 0
Channelled c = (1 ≤ c) × (c ≤ 7)

abbrev FlagsOk : Flags → Type 0
FlagsOk g = (g.flag ≤ 1) × (g.depends ≡ 0) × (g.extension ≡ 0)

module _ (win : Window) where
  object_type_law : (carried : ℕ → Bool) → Kept Numbered (λ t. carried t ≡ true) (object_type carried win)
  unfolding object_type
  object_type_law carried =
      on _ (a_field _ _) λ t _. either _ (λ _. refuses_after refl) (λ _. then (a_need _ 8 _ refl) λ _ c. gives c)

  any_type_law : Kept Numbered Any (any_type win)
  unfolding any_type
  any_type_law = on _ (a_field _ _) λ t _. either _ (λ _. on _ (a_field _ _) λ x _. gives tt) (λ _. gives tt)

  in_hertz : Kept Numbered (λ f. valid_freq f ≡ true) (hertz win)
  unfolding hertz
  in_hertz = on _ (a_field _ _) λ h l. then (a_need _ 9 _ refl) λ _ c. gives (rw (c, le-leb h 16777215 (omega arith)))

  a_frequency : Kept Numbered (λ f. valid_freq f ≡ true) (frequency win)
  unfolding frequency
  a_frequency = on _ (a_field _ _) λ i _. either _ (λ e. gives e) (λ _. either _ (λ _. in_hertz) (λ _. refuses refl))

  channels : Kept Numbered Channelled (channel_configuration win)
  unfolding channel_configuration
  channels =
      on _ (a_field _ _) λ c _. then (a_need _ 11 _ refl) λ _ e.
      let q = both (leb 1 c) (leb c 7) e in gives (leb-true 1 c q.0, leb-true c 7 q.1)

  unset_flag : Kept Numbered (λ f. f ≡ 0) (unset win)
  unfolding unset
  unset_flag = on _ (a_field _ _) λ f _. then (a_need _ 12 _ refl) λ _ e. gives (eqb-true f 0 e)

  ga_config : Kept Numbered FlagsOk (ga_specific_config win)
  unfolding ga_specific_config
  ga_config = on _ (a_field _ _) λ f l. on _ unset_flag λ d p. on _ unset_flag λ e q. gives (omega arith, p, q)

-- ---- the tail behind the flags: a form after 0x2B7 stands in a window alone

abbrev pub Formed : ℕ → Form → Type 0
Formed version m = valid_form version m ≡ true

module _ (win : Window) where
  ps_extension_law : (x : Freq) → valid_freq x ≡ true → Kept Numbered (Formed 1) (ps_extension x win)
  unfolding ps_extension
  ps_extension_law x h =
      on _ (a_field _ _) λ y _. either _ (λ _. on _ (a_field _ _) λ f l. gives (rw (h, le-leb f 1 (omega arith))))
      (λ _. gives (rw h))

  ps_tail_law : (x : Freq) → valid_freq x ≡ true → Kept Numbered (Formed 1) (ps_tail x win)
  unfolding ps_tail
  ps_tail_law x h = on _ a_place λ p _. either _ (λ _. ps_extension_law x h) (λ _. gives (rw h))

  sbr_extension_law : Kept Numbered (Formed 1) (sbr_extension win)
  unfolding sbr_extension
  sbr_extension_law = on _ (a_field _ _) λ f _. either _ (λ _. on _ (a_frequency win) λ x h. ps_tail_law x h) (λ _. gives refl)

  extension_type_law : Kept Numbered (Formed 1) (extension_type win)
  unfolding extension_type
  extension_type_law =
      on _ (any_type_law win) λ t _. either _ (λ _. sbr_extension_law) (λ _. either _ (λ _. refuses refl) (λ _. gives refl))

  sync_extension_law : Kept Numbered (Formed 1) (sync_extension win)
  unfolding sync_extension
  sync_extension_law = on _ (a_field _ _) λ y _. either _ (λ _. extension_type_law) (λ _. gives refl)

-- the version of a configuration that is read in a window
abbrev pub version_in : Window → ℕ
version_in Open = 0
version_in (UpTo e) = 1

asc_tail : (win : Window) → Kept Numbered (Formed (version_in win)) (tail win)
unfolding tail
asc_tail Open = on _ a_place λ p _. either _ (λ e. absurd (omega (arith, leb-true 16 0 e))) (λ _. gives refl)
asc_tail (UpTo e) = on _ a_place λ p _. either _ (λ _. sync_extension_law (UpTo e)) (λ _. gives refl)

-- ---- the configuration

abbrev pub Configured : ℕ → Config → Type 0
Configured version c = valid_config version c ≡ true

in_front_law : (version t : ℕ) (x : Freq) → valid_freq x ≡ true → Formed version (in_front t x)
in_front_law version t x h = chosen (Formed version) (eqb t 5) _ _ h h

-- what the parts of a configuration say of it
whole : (version t : ℕ) (f : Freq) (c : ℕ) (g : Flags) (m : Form) → is_core t ≡ true → valid_freq f ≡ true
    → Channelled c → FlagsOk g → Formed version m
    → Configured version (config_of t f c g m)
whole version t f c g m ht hf hc hg hm =
    let q = both (leb 1 t) (leb t 4) ht in
    config_valid version (config_of t f c g m) (record {
      core = (leb-true 1 t q.0, leb-true t 4 q.1);
      channels = hc;
      flag = hg.0;
      depends = hg.1;
      extension = hg.2;
      freq = hf;
      form = hm;
    })

module _ (win : Window) where
  core_alone : (t : ℕ) (f : Freq) (c : ℕ) → is_core t ≡ true → valid_freq f ≡ true → Channelled c
      → Kept Numbered (Configured (version_in win)) (alone t f c win)
  unfolding alone
  core_alone t f c ht hf hc =
      on _ (ga_config win) λ g hg. on _ (asc_tail win) λ m hm. gives (whole _ t f c g m ht hf hc hg hm)

  under_front_law : (t : ℕ) (f : Freq) (c : ℕ) → valid_freq f ≡ true → Channelled c
      → Kept Numbered (Configured (version_in win)) (under_front t f c win)
  unfolding under_front
  under_front_law t f c hf hc =
      on _ (a_frequency win) λ x hx. on _ (object_type_law win is_core) λ y hy. on _ (ga_config win) λ g hg.
      gives (whole _ y f c g (in_front t x) hy hf hc hg (in_front_law (version_in win) t x hx))

  pub asc : Kept Numbered (Configured (version_in win)) (audio_specific_config win)
  unfolding audio_specific_config
  asc =
      on _ (object_type_law win is_front) λ t _. on _ (a_frequency win) λ f hf. on _ (channels win) λ c hc.
      either _ (λ e. core_alone t f c e hf hc) (λ _. under_front_law t f c hf hc)
