-- What is written of an element: its items with their bits, one after the other.
use Rattle.std.specs.Prelude.{Bool, cond, List, [], ◌∷◌, ◌++◌, ℕ, zero, suc, ◌+◌, ◌-◌, ◌/◌, ◌%◌, eqb, length, get_or, take, drop}
use Rattle.kernel.specs.Bits.{◌⧺◌, bits_of, unpack}
use Rattle.kernel.specs.Element.{Item, item, Content, fields, passed, closed, spare}
use Rattle.records.specs.declared.Stream.{Stream}
use Rattle.records.specs.declared.Record.{Record}
use Rattle.config.specs.Mux.{mux_bits}
use Rattle.element.specs.Mux.{kind_u, kind_c, kind_l, kind_p, kind_o, kind_a, streams_of}

-- an item before it has its place
pub record Piece : Type 0 where
  pub content : Content
  pub kind : ℕ
  pub stream : ℕ
  pub bits : List Bool

-- a piece by its content, kind, stream and bits
abbrev pub piece : Content → ℕ → ℕ → List Bool → Piece
piece c kind stream b = record { content = c; kind = kind; stream = stream; bits = b }

-- the bits of pieces one after the other
unfoldable pub bits_in : List Piece → List Bool
bits_in [] = []
bits_in (p ∷ ps) = p.bits ++ bits_in ps

-- the items of pieces that stand from bit `at` on
unfoldable pub items_at : ℕ → List Piece → List Item
items_at at [] = []
items_at at (p ∷ ps) = item p.content p.kind p.stream at (length p.bits) ∷ items_at (at + length p.bits) ps

-- k bytes of 255
unfoldable pub ones_bits : ℕ → List Bool
ones_bits zero = []
ones_bits (suc k) = bits_of 8 255 ⧺ ones_bits k

-- MuxSlotLengthBytes of n bytes: 255 as often as it goes, and what is left
unfoldable pub length_bits : ℕ → List Bool
length_bits n = ones_bits (n / 255) ⧺ bits_of 8 (n % 255)

-- a fixed slot sends no length
abbrev pub slot_bits : ℕ → ℕ → List Bool
slot_bits kind n = cond (eqb kind 0) (length_bits n) []

-- the lengths of all streams, of which the first is the first of ns
unfoldable pub lengths_bits : List Stream → List ℕ → List Bool
lengths_bits [] ns = []
lengths_bits (s ∷ ss) ns = slot_bits s.kind (get_or ns 0 0) ⧺ lengths_bits ss (drop 1 ns)

-- the payloads of k streams from stream i on
unfoldable pub payload_pieces : ℕ → ℕ → List ℕ → List ℕ → List Piece
payload_pieces i zero ns payload = []
payload_pieces i (suc k) ns payload =
    piece (passed closed) kind_p i (unpack (take (get_or ns 0 0) payload))
    ∷ payload_pieces (i + 1) k (drop 1 ns) (drop (get_or ns 0 0) payload)

-- the sum of the first k lengths
unfoldable pub sum_of : ℕ → List ℕ → ℕ
sum_of zero ns = 0
sum_of (suc k) ns = get_or ns 0 0 + sum_of k (drop 1 ns)

-- n subframes: all lengths, then all payloads
unfoldable pub subframe_pieces : ℕ → List Stream → List ℕ → List ℕ → List Piece
subframe_pieces zero ss ns payload = []
subframe_pieces (suc n) ss ns payload =
    (piece fields kind_l 0 (lengths_bits ss ns) ∷ payload_pieces 0 (length ss) ns payload)
    ++ subframe_pieces n ss (drop (length ss) ns) (drop (sum_of (length ss) ns) payload)

-- other data, packed from the top bit
abbrev pub other_pieces : Record → List ℕ → List Piece
other_pieces r other = cond (eqb r.other 1) (piece (passed closed) kind_o 0 (take r.bits (unpack other)) ∷ []) []

-- the configuration, where it is sent
abbrev pub config_pieces : Bool → Record → List Piece
config_pieces send r = cond send (piece fields kind_c 0 (mux_bits r) ∷ []) []

-- what is to be written: a record, whether to send it, the slots' lengths in payload order, payload, other data
pub record Sent : Type 0 where
  pub config : Record
  pub send : Bool
  pub lengths : List ℕ
  pub payload : List ℕ
  pub other : List ℕ

-- the same by its five parts
abbrev pub to_send : Record → Bool → List ℕ → List ℕ → List ℕ → Sent
to_send r send lengths payload other =
    record { config = r; send = send; lengths = lengths; payload = payload; other = other }

-- up to other data
abbrev pub content_pieces : Sent → List Piece
content_pieces w =
    piece fields kind_u 0 (bits_of 1 (cond w.send 0 1))
    ∷ (config_pieces w.send w.config
    ++ (subframe_pieces (w.config.subframes + 1) (streams_of w.config) w.lengths w.payload
    ++ other_pieces w.config w.other))

-- zeros up to a byte
abbrev pub alignment : ℕ → Piece
alignment at = piece (passed spare) kind_a 0 (bits_of ((8 - at % 8) % 8) 0)

-- all of an element
abbrev pub pieces : Sent → List Piece
pieces w = content_pieces w ++ (alignment (length (bits_in (content_pieces w))) ∷ [])

-- and its bits
abbrev pub element_bits : Sent → List Bool
element_bits w = bits_in (pieces w)

-- the bytes of the element
abbrev pub size_of : Sent → ℕ
size_of w = length (element_bits w) / 8
