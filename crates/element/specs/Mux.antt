-- AudioMuxElement with muxConfigPresent 1, as a tree of items.
use Rattle.std.specs.Prelude.{Bool, true, false, ◌||◌, List, [], ◌∷◌, ◌++◌, map, ℕ, zero, suc, ◌+◌, ◌*◌, ◌-◌, ◌%◌, eqb, take}
use Rattle.kernel.specs.declared.Window.TheVariants.{Open}
use Rattle.kernel.specs.Reading.{Reading, give, field, choose, need, ◌>>=◌, ◌>>◌}
use Rattle.kernel.specs.Element.{Element, done, part, over, spot, follow, Passing, closed, spare}
use Rattle.records.specs.declared.Stream.{Stream}
use Rattle.records.specs.declared.Record.{Record}
use Rattle.records.specs.Table.{streams_in}
use Rattle.config.specs.Mux.{stream_mux_config}
use Rattle.element.specs.Held.{Held, config_held, usable}

-- ---- the kinds of items

-- U: useSameStreamMux
abbrev pub kind_u : ℕ
kind_u = 1

-- C: StreamMuxConfig
abbrev pub kind_c : ℕ
kind_c = 2

-- L: the lengths of a subframe
abbrev pub kind_l : ℕ
kind_l = 3

-- P: a payload
abbrev pub kind_p : ℕ
kind_p = 4

-- O: other data
abbrev pub kind_o : ℕ
kind_o = 5

-- A: alignment
abbrev pub kind_a : ℕ
kind_a = 6

-- the answer of an accepted element: whether a configuration was sent, and the one that applied
pub record Applied : Type 0 where
  pub sent : Bool
  pub config : Record

-- bytes added to v until one is not 255, as long as there are no more than n of them
unfoldable pub slot_from : ℕ → ℕ → Reading ℕ
slot_from zero v = give v
slot_from (suc n) v = do
  b ← field Open 8
  choose (eqb b 255) (slot_from n (v + 255)) (give (v + b))

-- MuxSlotLengthBytes. An element has fewer than 8,192 bytes, so the bound is never met: SlotIsUnbounded in Claims
unfoldable pub mux_slot_length_bytes : Reading ℕ
mux_slot_length_bytes = slot_from 8192 0

-- the bits of a stream's slot: of frameLengthType 0 by length bytes, of type 1 fixed
unfoldable pub slot_of : ℕ → ℕ → Reading ℕ
slot_of kind fixed = choose (eqb kind 0) (mux_slot_length_bytes >>= λ v. give (8 * v)) (give (8 * (fixed + 20)))

-- PayloadLengthInfo: of all streams, each slot by its reading, after those that are ws
unfoldable pub payload_length_info : List ℕ → List (Reading ℕ) → Reading (List ℕ)
payload_length_info ws [] = give ws
payload_length_info ws (slot ∷ slots) = do
  w ← slot
  payload_length_info (ws ++ (w ∷ [])) slots

-- one item passed over
abbrev pub pass_over : Passing → ℕ → ℕ → ℕ → Element Unit
pass_over c kind stream w = over c kind stream w (done tt)

-- PayloadMux: a payload for each stream, from stream i on
unfoldable pub payload_mux : ℕ → List ℕ → Element Unit
payload_mux i [] = done tt
payload_mux i (w ∷ ws) = over closed kind_p i w (payload_mux (i + 1) ws)

-- all lengths, then all payloads
unfoldable pub subframe : List (Reading ℕ) → Element Unit
subframe slots = part (List ℕ) kind_l (payload_length_info [] slots) λ ws. payload_mux 0 ws

-- n of them
unfoldable pub subframes : ℕ → List (Reading ℕ) → Element Unit
subframes zero slots = done tt
subframes (suc n) slots = follow (subframe slots) λ _. subframes n slots

-- other data, where otherDataPresent is 1
unfoldable pub other_data : Bool → ℕ → Element Unit
other_data true w = pass_over closed kind_o 0 w
other_data false w = done tt

-- up to a byte
unfoldable pub byte_alignment : Element Unit
byte_alignment = spot λ p. pass_over spare kind_a 0 ((8 - p % 8) % 8)

-- what follows the configuration: the subframes, other data and alignment
unfoldable pub rest : ℕ → List (Reading ℕ) → Bool → ℕ → Element Unit
rest n slots other bits = follow (subframes n slots) λ _. follow (other_data other bits) λ _. byte_alignment

-- the streams that a record has,
abbrev pub streams_of : Record → List Stream
streams_of r = take (streams_in r.layers r.programs 16) r.streams

-- and the slot of each of some streams
abbrev pub slots_of : List Stream → List (Reading ℕ)
slots_of ss = map (λ s. slot_of s.kind s.fixed) ss

-- what follows this configuration
abbrev pub body : Record → Element Unit
body r = rest (r.subframes + 1) (slots_of (streams_of r)) (eqb r.other 1) r.bits

-- the same, with the answer
unfoldable pub applied : Applied → Element Applied
applied a = follow (body a.config) λ _. done a

-- useSameStreamMux, which may be 1 where one is held
unfoldable pub use_same_stream_mux : Bool → Reading ℕ
use_same_stream_mux held = do
  u ← field Open 1
  need (eqb u 0 || held) 4 1
  give u

-- a configuration is sent, and applies
abbrev pub sent_element : Element Applied
sent_element = part Record kind_c stream_mux_config λ r. applied (record { sent = true; config = r })

-- 1: the held configuration applies; 0: one is sent
unfoldable pub after_flag : Bool → Record → Element Applied
after_flag true held = applied (record { sent = false; config = held })
after_flag false held = sent_element

-- AudioMuxElement(1)
unfoldable pub audio_mux_element : Held → Element Applied
audio_mux_element h = part ℕ kind_u (use_same_stream_mux (usable h)) λ u. after_flag (eqb u 1) (config_held h)
