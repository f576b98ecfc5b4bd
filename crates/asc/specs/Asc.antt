-- AudioSpecificConfig and GASpecificConfig, in a window that ascLen gives (version 1) or that is open (version 0). What
-- is written for a part is named with `Bits` and stands behind it.
use Rattle.std.specs.Prelude.{Bool, cond, ◌&&◌, ◌||◌, List, [], ℕ, ◌+◌, ◌-◌, leb, eqb}
use Rattle.kernel.specs.declared.Window.{Window}
use Rattle.kernel.specs.declared.Window.TheVariants.{Open, UpTo}
use Rattle.kernel.specs.Bits.{bits_of, ◌⧺◌}
use Rattle.kernel.specs.Reading.{Reading, give, refuse, refuse_after, field, here, choose, need, ◌>>=◌, ◌>>◌}
use Rattle.records.specs.declared.Freq.{Freq}
use Rattle.records.specs.declared.Freq.TheVariants.{Index, Hz}
use Rattle.records.specs.declared.Form.{Form}
use Rattle.records.specs.declared.Form.TheVariants.{None, Type5, Type29, Flag0, Flag1, FlagPs}
use Rattle.records.specs.declared.Config.{Config}
use Rattle.asc.specs.declared.Flags.{Flags}

-- the core types carried
abbrev pub is_core : ℕ → Bool
is_core t = leb 1 t && leb t 4

-- what may stand first: a core, or type 5 or 29 in front of one
abbrev pub is_front : ℕ → Bool
is_front t = leb 1 t && leb t 5 || eqb t 29

-- GetAudioObjectType where only these types are carried; 31 has 6 more bits, and none of the types that they make is
unfoldable pub object_type : (ℕ → Bool) → Window → Reading ℕ
object_type carried win = do
  t ← field win 5
  choose (eqb t 31) (refuse_after win 6 8 5) (need (carried t) 8 5 >> give t)

-- GetAudioObjectType where any type may stand
unfoldable pub any_type : Window → Reading ℕ
any_type win = do
  t ← field win 5
  choose (eqb t 31) (field win 6 >>= λ x. give (32 + x)) (give t)

-- samplingFrequency in 24 bits, of which 0 Hz is refused
unfoldable pub hertz : Window → Reading Freq
hertz win = do
  h ← field win 24
  need (leb 1 h) 9 24
  give (Hz h)

-- samplingFrequencyIndex, and samplingFrequency where it is 15
unfoldable pub frequency : Window → Reading Freq
frequency win = do
  i ← field win 4
  choose (leb i 12) (give (Index i)) (choose (eqb i 15) (hertz win) (refuse 9 4))

-- as it is written: an index, or index 15 and 24 bits
unfoldable pub freq_bits : Freq → List Bool
freq_bits (Index i) = bits_of 4 i
freq_bits (Hz h) = bits_of 4 15 ⧺ bits_of 24 h

-- channelConfiguration, 1 to 7
unfoldable pub channel_configuration : Window → Reading ℕ
channel_configuration win = do
  c ← field win 4
  need (leb 1 c && leb c 7) 11 4
  give c

-- a flag that must be 0
unfoldable pub unset : Window → Reading ℕ
unset win = do
  f ← field win 1
  need (eqb f 0) 12 1
  give f

-- the bits of ascLen that are left at bit p; in version 0 none count as left
abbrev pub left : Window → ℕ → ℕ
left Open p = 0
left (UpTo e) p = e - p

-- psPresentFlag after 0x548, where SBR was stated with the frequency x
unfoldable pub ps_extension : Freq → Window → Reading Form
ps_extension x win = do
  sync ← field win 11
  choose (eqb sync 1352) (field win 1 >>= λ f. give (FlagPs x f)) (give (Flag1 x))

-- 0x548 is looked for where 12 bits are left
unfoldable pub ps_tail : Freq → Window → Reading Form
ps_tail x win = do
  p ← here
  choose (leb 12 (left win p)) (ps_extension x win) (give (Flag1 x))

-- sbrPresentFlag, and what follows it
unfoldable pub sbr_extension : Window → Reading Form
sbr_extension win = do
  f ← field win 1
  choose (eqb f 1) (frequency win >>= λ x. ps_tail x win) (give Flag0)

-- extensionAudioObjectType after 0x2B7: 5 goes on, 22 is refused, and any other says nothing
unfoldable pub extension_type : Window → Reading Form
extension_type win = do
  t ← any_type win
  choose (eqb t 5) (sbr_extension win) (choose (eqb t 22) (refuse 8 5) (give None))

-- 0x2B7, and what follows it; other bits say nothing
unfoldable pub sync_extension : Window → Reading Form
sync_extension win = do
  sync ← field win 11
  choose (eqb sync 695) (extension_type win) (give None)

-- the tail behind the flags: 0x2B7 is looked for where 16 bits are left
unfoldable pub tail : Window → Reading Form
tail win = do
  p ← here
  choose (leb 16 (left win p)) (sync_extension win) (give None)

-- as it is written: nothing, unless the form stands behind 0x2B7
unfoldable pub tail_bits : Form → List Bool
tail_bits None = []
tail_bits (Type5 x) = []
tail_bits (Type29 x) = []
tail_bits Flag0 = bits_of 11 695 ⧺ bits_of 5 5 ⧺ bits_of 1 0
tail_bits (Flag1 x) = bits_of 11 695 ⧺ bits_of 5 5 ⧺ bits_of 1 1 ⧺ freq_bits x
tail_bits (FlagPs x f) = bits_of 11 695 ⧺ bits_of 5 5 ⧺ bits_of 1 1 ⧺ freq_bits x ⧺ bits_of 11 1352 ⧺ bits_of 1 f

-- the form that type 5 or 29 in front stands for
abbrev pub in_front : ℕ → Freq → Form
in_front t x = cond (eqb t 5) (Type5 x) (Type29 x)

-- GASpecificConfig
unfoldable pub ga_specific_config : Window → Reading Flags
ga_specific_config win = do
  flag ← field win 1
  depends ← unset win
  extension ← unset win
  give (record { flag = flag; depends = depends; extension = extension })

-- its parts put together
abbrev pub config_of : ℕ → Freq → ℕ → Flags → Form → Config
config_of t f c g m =
    record {
      core = t;
      freq = f;
      channels = c;
      flag = g.flag;
      depends = g.depends;
      extension = g.extension;
      form =
          m;
    }

-- a core type alone
unfoldable pub alone : ℕ → Freq → ℕ → Window → Reading Config
alone t f c win = do
  g ← ga_specific_config win
  m ← tail win
  give (config_of t f c g m)

-- a core under type 5 or 29
unfoldable pub under_front : ℕ → Freq → ℕ → Window → Reading Config
under_front t f c win = do
  x ← frequency win
  core ← object_type is_core win
  g ← ga_specific_config win
  give (config_of core f c g (in_front t x))

-- AudioSpecificConfig
unfoldable pub audio_specific_config : Window → Reading Config
audio_specific_config win = do
  t ← object_type is_front win
  f ← frequency win
  c ← channel_configuration win
  choose (is_core t) (alone t f c win) (under_front t f c win)

-- the type in front
unfoldable pub front_bits : ℕ → Form → List Bool
front_bits core None = bits_of 5 core
front_bits core (Type5 x) = bits_of 5 5
front_bits core (Type29 x) = bits_of 5 29
front_bits core Flag0 = bits_of 5 core
front_bits core (Flag1 x) = bits_of 5 core
front_bits core (FlagPs x f) = bits_of 5 core

-- behind the channels, where 5 or 29 stands in front: the extension frequency and the core
unfoldable pub under_bits : ℕ → Form → List Bool
under_bits core None = []
under_bits core (Type5 x) = freq_bits x ⧺ bits_of 5 core
under_bits core (Type29 x) = freq_bits x ⧺ bits_of 5 core
under_bits core Flag0 = []
under_bits core (Flag1 x) = []
under_bits core (FlagPs x f) = []

-- a configuration as it is written
unfoldable pub asc_bits : Config → List Bool
asc_bits c =
    front_bits c.core c.form ⧺ freq_bits c.freq ⧺ bits_of 4 c.channels ⧺ under_bits c.core c.form
    ⧺ bits_of 1 c.flag ⧺ bits_of 1 c.depends ⧺ bits_of 1 c.extension ⧺ tail_bits c.form
