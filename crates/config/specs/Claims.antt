-- What is claimed of records as they are written. proofs/Theorems.antt has the theorem of each.
use Rattle.std.specs.Prelude.{◌≡◌, true, Bool, List, ◌∷◌, ℕ, ◌^◌, ◌<◌, ◌+◌, ◌-◌, ◌*◌, ◌≤◌, length, get_or}
use Rattle.kernel.specs.declared.Window.TheVariants.{Open, UpTo}
use Rattle.kernel.specs.Reading.{gave, run}
use Rattle.kernel.specs.Trip.{Reads, Gives}
use Rattle.kernel.specs.Exactly.{Exactly}
use Rattle.kernel.specs.Bits.{bits_of, ◌⧺◌, Holds}
use Rattle.records.specs.declared.Config.{Config}
use Rattle.records.specs.declared.Record.{Record}
use Rattle.records.specs.Blank.{no_stream}
use Rattle.records.specs.Table.{streams_in}
use Rattle.records.specs.Valid.{valid_config, valid_of}
use Rattle.numbers.specs.Values.{latm_get_value, value_bits}
use Rattle.asc.specs.Asc.{audio_specific_config, asc_bits}
use Rattle.config.specs.Mux.{windowed, config_bits, layer_bits, config_at, layers_bits, programs_bits, mux_head_bits}
use Rattle.config.specs.Mux.{stream_mux_config, mux_bits}

-- a valid configuration reads back behind its ascLen
abbrev pub WindowedReadsBack : Type 0
WindowedReadsBack = (c : Config) (at : ℕ) → valid_config 1 c ≡ true → Reads Open at windowed (config_bits 1 c) c

-- what is written of a valid record reads back to it; an array has 16 places, and a u32 has 32 bits
abbrev pub RecordReadsBack : Type 0
RecordReadsBack =
    (r : Record) (at : ℕ) → length r.layers ≡ 16 → length r.streams ≡ 16 → r.tara < 2 ^ 32 → r.bits < 2 ^ 32
    → valid_of r ≡ true
    → Reads Open at stream_mux_config (mux_bits r) r

-- and it is the shortest: wherever a reading gives the record, it has read no fewer bits
abbrev pub RecordIsShortest : Type 0
RecordIsShortest =
    (s : List ℕ) (at n : ℕ) (r : Record) (to m : ℕ) → run s stream_mux_config at n ≡ gave r to m
    → at + length (mux_bits r) ≤ to

-- what is read is a record that 16 does not refuse,
abbrev pub ReadIsValid : Type 0
ReadIsValid =
    (s : List ℕ) (at n : ℕ) (r : Record) (p m : ℕ) → run s stream_mux_config at n ≡ gave r p m → valid_of r ≡ true

-- and it reads back wherever it is written
abbrev pub ReadReadsBack : Type 0
ReadReadsBack =
    (s : List ℕ) (at n : ℕ) (r : Record) (p m : ℕ) → run s stream_mux_config at n ≡ gave r p m → (to : ℕ)
    → Reads Open to stream_mux_config (mux_bits r) r

-- no fill: the window that ascLen gives ends where the configuration in it does
abbrev pub NoFill : Type 0
NoFill =
    (c : Config) (s : List ℕ) (at n : ℕ) → valid_config 1 c ≡ true → Holds s at (config_bits 1 c)
    → at + length (config_bits 1 c) ≤ 8 * length s
    → let len = length (asc_bits c) in let p = at + length (value_bits len) in
    Gives (run s latm_get_value at n) len p × Gives (run s (audio_specific_config (UpTo (p + len))) p n) c (p + len)

-- what is written of a record before layer l of program p
abbrev pub bits_before : Record → ℕ → ℕ → List Bool
bits_before r p l =
    mux_head_bits r ⧺ programs_bits r.version p 0 0 r.layers r.streams
    ⧺ bits_of 3 (get_or r.layers p 0) ⧺ layers_bits r.version l (streams_in r.layers r.programs p) r.streams

-- there stands what is written of stream i, and its first bit, useSameConfig, is 1 exactly where its configuration
-- equals the one before
pub record SaysSame (r : Record) (p l i : ℕ) : Type 0 where
  pub same : Bool
  pub more : List Bool
  pub behind : List Bool
  pub layer : layer_bits r.version i (config_at r.streams (i - 1)) (get_or r.streams i no_stream) ≡ same ∷ more
  pub stands : mux_bits r ≡ bits_before r p l ⧺ (same ∷ more) ⧺ behind
  pub says : Exactly (same ≡ true) (config_at r.streams (i - 1) ≡ config_at r.streams i)

-- of each stream but the first
abbrev pub SameWhereEqual : Type 0
SameWhereEqual = (r : Record) (p l : ℕ) → p ≤ r.programs → l ≤ get_or r.layers p 0
    → let i = streams_in r.layers r.programs p + l in 1 ≤ i → SaysSame r p l i
