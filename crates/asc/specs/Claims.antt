-- What is claimed of a configuration. proofs/Theorems.antt has the theorem of each.
use Rattle.std.specs.Prelude.{◌≡◌, true, List, ℕ, ◌+◌, ◌≤◌, length}
use Rattle.kernel.specs.declared.Window.{Window}
use Rattle.kernel.specs.declared.Window.TheVariants.{Open, UpTo}
use Rattle.kernel.specs.Reading.{gave, run}
use Rattle.kernel.specs.Trip.{Reads}
use Rattle.records.specs.declared.Freq.{Freq}
use Rattle.records.specs.declared.Form.{Form}
use Rattle.records.specs.declared.Config.{Config}
use Rattle.asc.specs.declared.Flags.{Flags}
use Rattle.records.specs.Valid.{valid_config}
use Rattle.kernel.specs.Promises.{ToldOnce}
use Rattle.asc.specs.Asc.{audio_specific_config, asc_bits}

-- a valid configuration, written alone, reads back in version 0, where no tail is looked for,
abbrev pub ConfigReadsBack : Type 0
ConfigReadsBack =
    (c : Config) (at : ℕ) → valid_config 0 c ≡ true → Reads Open at (audio_specific_config Open) (asc_bits c) c

-- and in version 1 in a window that ends with it
abbrev pub ConfigReadsBackInWindow : Type 0
ConfigReadsBackInWindow = (c : Config) (at : ℕ) → valid_config 1 c ≡ true
    → Reads (UpTo (at + length (asc_bits c))) at (audio_specific_config (UpTo (at + length (asc_bits c)))) (asc_bits c) c

-- and it is the shortest: wherever a reading gives the configuration, in any window, it has read no fewer bits
abbrev pub ConfigIsShortest : Type 0
ConfigIsShortest =
    (win : Window) (s : List ℕ) (at n : ℕ) (c : Config) (to m : ℕ)
    → run s (audio_specific_config win) at n ≡ gave c to m → at + length (asc_bits c) ≤ to

-- each promise allows one answer: of a frequency,
abbrev pub RatedOnce : Type 0
RatedOnce = ToldOnce Freq

-- of the flags,
abbrev pub FlaggedOnce : Type 0
FlaggedOnce = ToldOnce Flags

-- of a form,
abbrev pub FormedOnce : Type 0
FormedOnce = ToldOnce Form

-- and of a whole configuration
abbrev pub ConfiguredOnce : Type 0
ConfiguredOnce = ToldOnce Config
