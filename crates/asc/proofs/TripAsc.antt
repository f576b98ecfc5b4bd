-- What is written of a configuration reads back: AudioSpecificConfig, in a window that ends with it or in the open.
use mathlib.Core.Path.{◌≡◌, refl, ap, subst, ◌∙◌}
use mathlib.Core.Bool.{Bool, true, false}
use mathlib.Core.List.{List, [], ◌++◌, append_assoc}
use Prim.Native.Nat.{ℕ, ◌+◌, ◌-◌, ◌<◌, ◌≤◌}
use native.Mathlib.Omega.{arith}
use lib.Dec.{leb, eqb}
use lib.ListN.{length, length-append}
use borrow.Author.Tests.{le-leb, lt-leb, leb-true, eq-eqb, ne_eqb}
use Rattle.kernel.specs.declared.Window.{Window}
use Rattle.kernel.specs.declared.Window.TheVariants.{Open, UpTo}
use Rattle.kernel.specs.Bits.{bits_of, ◌⧺◌}
use Rattle.kernel.specs.Reading.{Reading, choose, ◌>>=◌}
use Rattle.kernel.specs.Trip.{Reads}
use Rattle.kernel.proofs.Bits.{length-bits_of}
use Rattle.kernel.proofs.Tests.{both, three}
use Rattle.kernel.proofs.Trip.{reads_give, reads_here, reads_bind, reads_on, reads_then, reads_yes, reads_no}
use Rattle.kernel.proofs.Trip.{reads_need, reads_last, reads_wide}
use Rattle.records.specs.declared.Freq.{Freq}
use Rattle.records.specs.declared.Freq.TheVariants.{Index, Hz}
use Rattle.records.specs.declared.Form.{Form}
use Rattle.records.specs.declared.Form.TheVariants.{None, Type5, Type29, Flag0, Flag1, FlagPs}
use Rattle.records.specs.declared.Config.{Config}
use Rattle.records.specs.Valid.{valid_freq, valid_form, valid_config}
use Rattle.asc.specs.declared.Flags.{Flags}
use Rattle.asc.specs.Asc.{is_core, is_front, object_type, any_type, hertz, frequency, freq_bits, channel_configuration}
use Rattle.asc.specs.Asc.{unset, left}
use Rattle.asc.specs.Asc.{ps_extension, ps_tail, sbr_extension, extension_type, sync_extension, tail, tail_bits}
use Rattle.asc.specs.Asc.{in_front, ga_specific_config, config_of, alone, under_front, audio_specific_config, front_bits}
use Rattle.asc.specs.Asc.{under_bits, asc_bits}
use Rattle.records.proofs.Apart.{ConfigOk, config_ok}

-- ---- the fields

object_trip : (carried : ℕ → Bool) (win : Window) (at t : ℕ) → t < 31 → carried t ≡ true
    → Reads win at (object_type carried win) (bits_of 5 t) t
unfolding object_type
object_trip carried win at t l h =
    reads_last 5 t _ (omega arith) (reads_no _ (ne_eqb t 31 (λ q. omega arith)) (reads_need 8 5 h reads_give))

freq_trip : (win : Window) (at : ℕ) (x : Freq) → valid_freq x ≡ true → Reads win at (frequency win) (freq_bits x) x
unfolding frequency hertz freq_bits
freq_trip win at (Index i) h =
    let l : i ≤ 12 = leb-true i 12 h in reads_last 4 i _ (omega arith) (reads_yes _ h reads_give)
freq_trip win at (Hz x) h =
    let q = both (leb 1 x) (leb x 16777215) h in
    let l : x ≤ 16777215 = leb-true x 16777215 q.1 in
    reads_on 4 15 _ (omega arith)
    (reads_no _ refl (reads_yes _ refl (reads_last 24 x _ (omega arith) (reads_need 9 24 q.0 reads_give))))

channels_trip : (win : Window) (at c : ℕ) → 1 ≤ c → c ≤ 7 → Reads win at (channel_configuration win) (bits_of 4 c) c
unfolding channel_configuration
channels_trip win at c l h =
    reads_last 4 c _ (omega arith) (reads_need 11 4 (rw (le-leb 1 c l, le-leb c 7 h)) reads_give)

unset_trip : (win : Window) (at f : ℕ) → f ≡ 0 → Reads win at (unset win) (bits_of 1 f) f
unfolding unset
unset_trip win at f e = reads_last 1 f _ (omega arith) (reads_need 12 1 (eq-eqb f 0 e) reads_give)

length_freq : (x : Freq) → length (freq_bits x) ≤ 28
unfolding freq_bits
length_freq (Index i) = rw (length-bits_of 4 i) (omega arith)
length_freq (Hz x) =
    rw (length-append (bits_of 4 15) (bits_of 24 x), length-bits_of 4 15, length-bits_of 24 x) (omega arith)

-- ---- the tail

left_after : (win : Window) (p k : ℕ) → left win (p + k) ≡ left win p - k
left_after Open p k = omega arith
left_after (UpTo e) p k = omega arith

-- the forms that a tail stands for
abbrev TailOk : Form → Type 0
TailOk None = Unit {0}
TailOk (Type5 x) = ⊥
TailOk (Type29 x) = ⊥
TailOk Flag0 = Unit {0}
TailOk (Flag1 x) = valid_freq x ≡ true
TailOk (FlagPs x f) = (valid_freq x ≡ true) × (f ≤ 1)

-- up to sbrPresentFlag
sync_trip : {win : Window} {at : ℕ} {form : Form} {z : List Bool} → 16 ≤ left win at
    → Reads win (at + 11 + 5) (sbr_extension win) z form
    → Reads win at (tail win) (bits_of 11 695 ⧺ bits_of 5 5 ⧺ z) form
unfolding tail sync_extension extension_type any_type
sync_trip {win} {at} {form} {z} l r =
    reads_here _ (reads_yes _ (le-leb 16 (left win at) (omega arith)) (reads_on 11 695 _ (omega arith) (reads_yes _ refl
    (reads_wide 5 _ (length-bits_of 5 5) (reads_last 5 5 _ (omega arith) (reads_no _ refl reads_give))
    (reads_yes _ refl r)))))

tail_trip : (win : Window) (at : ℕ) (form : Form) → TailOk form → left win at ≡ length (tail_bits form)
    → Reads win at (tail win) (tail_bits form) form
unfolding tail_bits sbr_extension ps_tail ps_extension
tail_trip win at None h e = unfold tail in reads_here _ (reads_no _ (lt-leb 16 (left win at) (omega arith)) reads_give)
tail_trip win at (Type5 x) h e = absurd h
tail_trip win at (Type29 x) h e = absurd h
tail_trip win at Flag0 h e =
    let l : left win at ≡ 17 = e ∙ simp (length-append, length-bits_of) in
    sync_trip (omega arith) (reads_last 1 0 _ (omega arith) (reads_no _ refl reads_give))
tail_trip win at (Flag1 x) h e =
    let l : left win at ≡ 11 + (5 + (1 + length (freq_bits x))) = e ∙ simp (length-append, length-bits_of) in
    let q : left win (at + 11 + 5 + 1 + length (freq_bits x)) ≡ 0 = simp left_after (omega arith) in
    sync_trip (omega arith) (reads_on 1 1 _ (omega arith)
    (reads_yes _ refl (reads_then _ (freq_trip win (at + 11 + 5 + 1) x h)
    (reads_here _ (reads_no _ (lt-leb 12 (left win (at + 11 + 5 + 1 + length (freq_bits x))) (omega arith))
    reads_give)))))
tail_trip win at (FlagPs x f) h e =
    let l : left win at ≡ 11 + (5 + (1 + (length (freq_bits x) + 12))) = e ∙ simp (length-append, length-bits_of) in
    let q : left win (at + 11 + 5 + 1 + length (freq_bits x)) ≡ 12 = simp left_after (omega arith) in
    sync_trip (omega arith) (reads_on 1 1 _ (omega arith)
    (reads_yes _ refl (reads_bind _ (freq_trip win (at + 11 + 5 + 1) x h.0)
    (reads_here _ (reads_yes _ (le-leb 12 (left win (at + 11 + 5 + 1 + length (freq_bits x))) (omega arith))
    (reads_on 11 1352 _ (omega arith) (reads_yes _ refl (reads_last 1 f _ (omega arith) reads_give))))))))

-- ---- the whole

flags_trip : {B : Type 0} {win : Window} {at : ℕ} {y : List Bool} {c : B} (g : Flags) (f : Flags → Reading B)
    → g.flag ≤ 1 → g.depends ≡ 0 → g.extension ≡ 0 → Reads win (at + 3) (f g) y c
    → Reads win at (ga_specific_config win >>= f) (bits_of 1 g.flag ⧺ bits_of 1 g.depends ⧺ bits_of 1 g.extension
    ⧺ y) c
unfolding ga_specific_config
flags_trip {win = win} {at = at} {y = y} {c = c} g f l d e r =
    subst (λ (z : List Bool). Reads win at (ga_specific_config win >>= f) z c)
    (append_assoc (bits_of 1 g.flag) _ y
    ∙ ap (λ (z : List Bool). bits_of 1 g.flag ++ z) (append_assoc (bits_of 1 g.depends) _ y))
    (reads_wide 3 f (simp (length-append, length-bits_of))
    (reads_on 1 g.flag _ (omega arith)
    (reads_wide 1 _ (length-bits_of 1 g.depends) (unset_trip win (at + 1) g.depends d)
    (reads_then _ (unset_trip win (at + 1 + 1) g.extension e) reads_give)))
    r)

-- up to channelConfiguration
start_trip : {win : Window} {at : ℕ} {y : List Bool} {c : Config} (t : ℕ) (x : Freq) (channels : ℕ) → t < 31
    → is_front t ≡ true → valid_freq x ≡ true
    → 1 ≤ channels → channels ≤ 7
    → Reads win (at + 5 + length (freq_bits x) + 4)
    (choose (is_core t) (alone t x channels win) (under_front t x channels win)) y c
    → Reads win at (audio_specific_config win) (bits_of 5 t ⧺ freq_bits x ⧺ bits_of 4 channels ⧺ y) c
unfolding audio_specific_config
start_trip {win} {at} {y} {c} t x channels l h v lo hi r =
    reads_wide 5 _ (length-bits_of 5 t) (object_trip is_front win at t l h) (reads_bind _ (freq_trip win (at + 5) x v)
    (reads_wide 4 _ (length-bits_of 4 channels) (channels_trip win (at + 5 + length (freq_bits x)) channels lo hi) r))

core_is : (t : ℕ) → 1 ≤ t → t ≤ 4 → is_core t ≡ true
core_is t l h = rw (le-leb 1 t l, le-leb t 4 h)

front_is : (t : ℕ) → 1 ≤ t → t ≤ 4 → is_front t ≡ true
front_is t l h = rw (le-leb 1 t l, le-leb t 5 (omega arith))

-- the bit where a tail begins
abbrev tail_from : ℕ → Freq → ℕ
tail_from at x = at + 5 + length (freq_bits x) + 4 + 3

alone_trip : (version : ℕ) (win : Window) (at core : ℕ) (x : Freq) (channels : ℕ) (g : Flags) (form : Form)
    → ConfigOk version (config_of core x channels g form) → TailOk form
    → left win (tail_from at x) ≡ length (tail_bits form)
    → Reads win at (audio_specific_config win)
    (bits_of 5 core ⧺ freq_bits x ⧺ bits_of 4 channels ⧺ bits_of 1 g.flag ⧺ bits_of 1 g.depends
    ⧺ bits_of 1 g.extension ⧺ tail_bits form)
    (config_of core x channels g form)
unfolding alone
alone_trip version win at core x channels g form h t e =
    start_trip core x channels (omega arith) (front_is core h.core.0 h.core.1) h.freq h.channels.0
    h.channels.1
    (reads_yes _ (core_is core h.core.0 h.core.1) (flags_trip g _ h.flag h.depends h.extension
    (reads_then _ (tail_trip win (tail_from at x) form t e) reads_give)))

front_trip : (version : ℕ) (win : Window) (at t core : ℕ) (x : Freq) (channels : ℕ) (g : Flags) (y : Freq)
    → ConfigOk version (config_of core x channels g (in_front t y)) → t < 31 → is_front t ≡ true → is_core t ≡ false
    → valid_freq y ≡ true
    → Reads win at (audio_specific_config win)
    (bits_of 5 t ⧺ freq_bits x ⧺ bits_of 4 channels ⧺ (freq_bits y ⧺ bits_of 5 core) ⧺ bits_of 1 g.flag
    ⧺ bits_of 1 g.depends ⧺ bits_of 1 g.extension ⧺ [])
    (config_of core x channels g (in_front t y))
unfolding under_front
front_trip version win at t core x channels g y h l f n v =
    start_trip t x channels l f h.freq h.channels.0 h.channels.1
    (reads_no _ n (rw append_assoc (reads_bind _ (freq_trip win (at + 5 + length (freq_bits x) + 4) y v)
    (reads_wide 5 _ (length-bits_of 5 core)
    (object_trip is_core win _ core (omega arith) (core_is core h.core.0 h.core.1))
    (flags_trip g _ h.flag h.depends h.extension reads_give)))))

asc_trip : (version : ℕ) (win : Window) (at core : ℕ) (x : Freq) (channels : ℕ) (g : Flags) (form : Form)
    → ConfigOk version (config_of core x channels g form)
    → (TailOk form → left win (tail_from at x) ≡ length (tail_bits form))
    → Reads win at (audio_specific_config win) (asc_bits (config_of core x channels g form))
    (config_of core x channels g form)
unfolding asc_bits front_bits under_bits
asc_trip version win at core x channels g None h e = alone_trip version win at core x channels g None h tt (e tt)
asc_trip version win at core x channels g (Type5 y) h e =
    unfold tail_bits in front_trip version win at 5 core x channels g y h (omega arith) refl refl h.form
asc_trip version win at core x channels g (Type29 y) h e =
    unfold tail_bits in front_trip version win at 29 core x channels g y h (omega arith) refl refl h.form
asc_trip version win at core x channels g Flag0 h e = alone_trip version win at core x channels g Flag0 h tt (e tt)
asc_trip version win at core x channels g (Flag1 y) h e =
    let q = both (eqb version 1) (valid_freq y) h.form in
    alone_trip version win at core x channels g (Flag1 y) h q.1 (e q.1)
asc_trip version win at core x channels g (FlagPs y f) h e =
    let q = three (eqb version 1) (valid_freq y) (leb f 1) h.form in
    let ok : TailOk (FlagPs y f) = (q.1, leb-true f 1 q.2) in
    alone_trip version win at core x channels g (FlagPs y f) h ok (e ok)

-- ---- the lengths

length_front : (core : ℕ) (form : Form) → length (front_bits core form) ≡ 5
unfolding front_bits
length_front core None = length-bits_of 5 core
length_front core (Type5 x) = length-bits_of 5 5
length_front core (Type29 x) = length-bits_of 5 29
length_front core Flag0 = length-bits_of 5 core
length_front core (Flag1 x) = length-bits_of 5 core
length_front core (FlagPs x f) = length-bits_of 5 core

length_under : (core : ℕ) (form : Form) → length (under_bits core form) ≤ 33
unfolding under_bits
length_under core None = omega arith
length_under core (Type5 x) = simp (length-append, length-bits_of) (omega (arith, length_freq x))
length_under core (Type29 x) = simp (length-append, length-bits_of) (omega (arith, length_freq x))
length_under core Flag0 = omega arith
length_under core (Flag1 x) = omega arith
length_under core (FlagPs x f) = omega arith

no_under : (core : ℕ) (form : Form) → TailOk form → length (under_bits core form) ≡ 0
unfolding under_bits
no_under core None h = refl
no_under core (Type5 x) h = absurd h
no_under core (Type29 x) h = absurd h
no_under core Flag0 h = refl
no_under core (Flag1 x) h = refl
no_under core (FlagPs x f) h = refl

length_tail : (form : Form) → length (tail_bits form) ≤ 57
unfolding tail_bits
length_tail None = omega arith
length_tail (Type5 x) = omega arith
length_tail (Type29 x) = omega arith
length_tail Flag0 = simp (length-append, length-bits_of) (omega arith)
length_tail (Flag1 x) = simp (length-append, length-bits_of) (omega (arith, length_freq x))
length_tail (FlagPs x f) = simp (length-append, length-bits_of) (omega (arith, length_freq x))

length_asc : (c : Config) → length (asc_bits c)
    ≡ 12 + length (freq_bits c.freq) + length (under_bits c.core c.form) + length (tail_bits c.form)
unfolding asc_bits
length_asc c = simp (length-append, length-bits_of, length_front) (omega arith)

-- a configuration is short
pub asc_short : (c : Config) → length (asc_bits c) ≤ 130
asc_short c =
    omega (arith, length_asc c, length_freq c.freq, length_under c.core c.form, length_tail c.form)

-- ---- the claims

flags_of : Config → Flags
flags_of c = record { flag = c.flag; depends = c.depends; extension = c.extension }

open_end : (form : Form) → valid_form 0 form ≡ true → TailOk form → 0 ≡ length (tail_bits form)
unfolding tail_bits
open_end None v h = refl
open_end (Type5 x) v h = absurd h
open_end (Type29 x) v h = absurd h
open_end Flag0 v h = let z : false ≡ true = v in cc
open_end (Flag1 x) v h = let z : false ≡ true = v in cc
open_end (FlagPs x f) v h = let z : false ≡ true = v in cc

pub open_trip : (c : Config) (at : ℕ) → valid_config 0 c ≡ true → Reads Open at (audio_specific_config Open) (asc_bits c) c
unfolding flags_of
open_trip c at v =
    let h = config_ok 0 c v in
    asc_trip 0 Open at c.core c.freq c.channels (flags_of c) c.form h (open_end c.form h.form)

pub window_trip : (c : Config) (at : ℕ) → valid_config 1 c ≡ true
    → Reads (UpTo (at + length (asc_bits c))) at (audio_specific_config (UpTo (at + length (asc_bits c)))) (asc_bits c) c
unfolding flags_of
window_trip c at v =
    asc_trip 1 (UpTo (at + length (asc_bits c))) at c.core c.freq c.channels (flags_of c) c.form
    (config_ok 1 c v)
    (λ t. omega (arith, length_asc c, no_under c.core c.form t))
