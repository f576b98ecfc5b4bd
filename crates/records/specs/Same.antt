-- When two configurations, and two whole records, are the same. A form is compared by its number, its frequency and its
-- PS flag.
use Rattle.std.specs.Prelude.{Bool, false, ◌&&◌, List, ℕ, eqb, get_or}
use Rattle.kernel.specs.Lists.{all_of}
use Rattle.records.specs.declared.Freq.{Freq}
use Rattle.records.specs.declared.Freq.TheVariants.{Index, Hz}
use Rattle.records.specs.declared.Form.{Form}
use Rattle.records.specs.declared.Form.TheVariants.{None, Type5, Type29, Flag0, Flag1, FlagPs}
use Rattle.records.specs.declared.Config.{Config}
use Rattle.records.specs.declared.Stream.{Stream}
use Rattle.records.specs.declared.Record.{Record}
use Rattle.records.specs.Blank.{no_stream}

-- an index and 24 bits differ, even where they mean the same frequency
abbrev pub same_freq : Freq → Freq → Bool
same_freq (Index i) (Index j) = eqb i j
same_freq (Index i) (Hz h) = false
same_freq (Hz h) (Index i) = false
same_freq (Hz g) (Hz h) = eqb g h

-- the number of a form
abbrev pub form_tag : Form → ℕ
form_tag None = 0
form_tag (Type5 x) = 1
form_tag (Type29 x) = 2
form_tag Flag0 = 3
form_tag (Flag1 x) = 4
form_tag (FlagPs x b) = 5

-- its extension frequency; index 0 where it has none
abbrev pub form_freq : Form → Freq
form_freq None = Index 0
form_freq (Type5 x) = x
form_freq (Type29 x) = x
form_freq Flag0 = Index 0
form_freq (Flag1 x) = x
form_freq (FlagPs x b) = x

-- its PS flag; 0 where it has none
abbrev pub form_ps : Form → ℕ
form_ps None = 0
form_ps (Type5 x) = 0
form_ps (Type29 x) = 0
form_ps Flag0 = 0
form_ps (Flag1 x) = 0
form_ps (FlagPs x b) = b

-- of two forms
abbrev pub same_form : Form → Form → Bool
same_form a b = eqb (form_tag a) (form_tag b) && eqb (form_ps a) (form_ps b) && same_freq (form_freq a) (form_freq b)

-- of two configurations
abbrev pub same_config : Config → Config → Bool
same_config a b =
    eqb a.core b.core && eqb a.channels b.channels && eqb a.flag b.flag
    && eqb a.depends b.depends
    && eqb a.extension b.extension && same_freq a.freq b.freq && same_form a.form b.form

-- of two streams
abbrev pub same_stream : Stream → Stream → Bool
same_stream a b =
    eqb a.kind b.kind && eqb a.fullness b.fullness && eqb a.fixed b.fixed
    && same_config a.config b.config

-- of the numLayers of 16 programs
abbrev pub same_layers : List ℕ → List ℕ → Bool
same_layers a b = all_of 16 λ p. eqb (get_or a p 0) (get_or b p 0)

-- of 16 streams
abbrev pub same_streams : List Stream → List Stream → Bool
same_streams a b = all_of 16 λ i. same_stream (get_or a i no_stream) (get_or b i no_stream)

-- of two records
abbrev pub same_record : Record → Record → Bool
same_record a b =
    eqb a.version b.version && eqb a.subversion b.subversion && eqb a.tara b.tara
    && eqb a.framing b.framing
    && eqb a.subframes b.subframes && eqb a.programs b.programs && eqb a.other b.other
    && eqb a.bits b.bits
    && eqb a.checked b.checked && eqb a.crc b.crc && same_layers a.layers b.layers
    && same_streams a.streams b.streams
