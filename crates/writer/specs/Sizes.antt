-- What the functions below `write` promise: sizes, and the bits of each part.
use Rattle.std.specs.Prelude.{Bool, cond, List, [], ◌∷◌, ◌++◌, ℕ, zero, suc, ◌+◌, ◌/◌, eqb, length, get_or, take, drop, Option, Some, None, Result, Ok, Err}
use Rattle.kernel.specs.Bits.{bits_of, unpack}
use Rattle.kernel.specs.Element.{passed, closed}
use Rattle.kernel.specs.Answer.{unread}
use Rattle.kernel.specs.declared.Refusal.{Refusal}
use Rattle.records.specs.declared.Record.{Record}
use Rattle.records.specs.declared.Stream.{Stream}
use Rattle.element.specs.Mux.{kind_o, streams_of}
use Rattle.writer.specs.Written.{piece, bits_in, config_pieces, Sent}
use Rattle.writer.specs.Write.{row_fits, slots_fit, fits}

-- length bytes of one slot,
abbrev pub bytes_of_length : Stream → ℕ → ℕ
bytes_of_length s n = cond (eqb s.kind 0) (n / 255 + 1) 0

-- of a row of slots
unfoldable pub row_bytes : List Stream → List ℕ → ℕ
row_bytes [] ns = 0
row_bytes (s ∷ ss) ns = bytes_of_length s (get_or ns 0 0) + row_bytes ss (drop 1 ns)

-- of n subframes
unfoldable pub length_bytes : ℕ → List Stream → List ℕ → ℕ
length_bytes zero ss ns = 0
length_bytes (suc n) ss ns = row_bytes ss ns + length_bytes n ss (drop (length ss) ns)

-- of n subframes, where fixed slots have their size
abbrev pub bytes_if_fit : ℕ → List Stream → List ℕ → Option ℕ
bytes_if_fit n ss ns = cond (slots_fit n ss ns) (Some (length_bytes n ss ns)) None

-- of one
abbrev pub row_if_fit : List Stream → List ℕ → Option ℕ
row_if_fit ss ns = cond (row_fits ss ns) (Some (row_bytes ss ns)) None

-- 17, or the length bytes of all slots
abbrev pub measured : Sent → Result ℕ Refusal
measured w =
    cond (fits w) (Ok (length_bytes (w.config.subframes + 1) (streams_of w.config) w.lengths)) (Err (unread 17))

-- the flag, and the configuration if sent
abbrev pub front_bits : Bool → Record → List Bool
front_bits send r = bits_of 1 (cond send 0 1) ++ bits_in (config_pieces send r)

-- other data, if present
abbrev pub other_bits : ℕ → ℕ → List ℕ → List Bool
other_bits present bits other =
    bits_in (cond (eqb present 1) (piece (passed closed) kind_o 0 (take bits (unpack other)) ∷ []) [])
