-- The row of a stream: what the probe shows of it.
use Rattle.std.specs.Prelude.{Bool, false, cond, ◌&&◌, List, [], ◌∷◌, ℕ, get_or, ℤ, pos, negsuc, ltb, eqb}
use Rattle.std.specs.Prelude.{Option, Some, None}
use Rattle.records.specs.declared.Freq.{Freq}
use Rattle.records.specs.declared.Freq.TheVariants.{Index, Hz}
use Rattle.records.specs.declared.Form.{Form}
use Rattle.records.specs.declared.Form.TheVariants.{None as Unsignalled, Type5, Type29, Flag0, Flag1, FlagPs}
use Rattle.records.specs.declared.Stream.{Stream}
use Rattle.records.specs.declared.Record.{Record}
use Rattle.records.specs.Blank.{no_stream}
use Rattle.records.specs.Same.{form_freq}
use Rattle.row.specs.declared.Row.{Row}

-- the frequencies by index
abbrev pub rates : List ℕ
rates = 96000 ∷ 88200 ∷ 64000 ∷ 48000 ∷ 44100 ∷ 32000 ∷ 24000 ∷ 22050 ∷ 16000 ∷ 12000 ∷ 11025 ∷ 8000 ∷ 7350 ∷ []

-- 0 past the last
abbrev pub hz_at : ℕ → ℕ
hz_at i = get_or rates i 0

-- a frequency, by its index or as it is sent
abbrev pub hz_of : Freq → ℕ
hz_of (Index i) = hz_at i
hz_of (Hz h) = h

-- minus one: the configuration sent no flag
abbrev pub no_flag : ℤ
no_flag = negsuc 0

-- SBR as a form signals it
abbrev pub sbr_of : Form → ℤ
sbr_of Unsignalled = no_flag
sbr_of (Type5 x) = pos 1
sbr_of (Type29 x) = pos 1
sbr_of Flag0 = pos 0
sbr_of (Flag1 x) = pos 1
sbr_of (FlagPs x b) = pos 1

-- PS as a form signals it: only type 29 and a flag behind 0x548 do
abbrev pub ps_of : Form → ℤ
ps_of Unsignalled = no_flag
ps_of (Type5 x) = no_flag
ps_of (Type29 x) = pos 1
ps_of Flag0 = no_flag
ps_of (Flag1 x) = no_flag
ps_of (FlagPs x b) = cond (eqb b 0) (pos 0) (pos 1)

-- a flag was sent and is 1
abbrev pub is_one : ℤ → Bool
is_one (pos n) = eqb n 1
is_one (negsuc n) = false

-- the extension frequency where SBR is 1, else the core's
abbrev pub output_of : Form → ℕ → ℕ
output_of f core = cond (is_one (sbr_of f)) (hz_of (form_freq f)) core

-- the channels of configurations 1 to 7, and 0 of any other
abbrev pub channels_at : ℕ → ℕ
channels_at c = get_or (0 ∷ 1 ∷ 2 ∷ 3 ∷ 4 ∷ 5 ∷ 6 ∷ 8 ∷ []) c 0

-- two where PS is 1 over channel configuration 1, else those of the configuration
abbrev pub output_channels : ℤ → ℕ → ℕ
output_channels ps c = cond (is_one ps && eqb c 1) 2 (channels_at c)

-- the row of a stream that is layer l of program p
abbrev pub row_of : ℕ → ℕ → Stream → Row
row_of p l s = record {
  program = p;
  layer = l;
  core = s.config.core;
  rate = hz_of s.config.freq;
  output = output_of s.config.form (hz_of s.config.freq);
  sbr = sbr_of s.config.form;
  ps = ps_of s.config.form;
  channels = output_channels (ps_of s.config.form) s.config.channels;
}

-- the row of stream number i of a record, where there is one
abbrev pub numbered : Record → ℕ → ℕ → ℕ → Option Row
numbered r p l i = cond (ltb i 16) (Some (row_of p l (get_or r.streams i no_stream))) None

-- the row of program p and layer l, whose stream number is looked up in a table of 16 by 8
abbrev pub row_in : Record → List (List ℕ) → ℕ → ℕ → Option Row
row_in r table p l = cond (ltb p 16) (cond (ltb l 8) (numbered r p l (get_or (get_or table p []) l 0)) None) None
