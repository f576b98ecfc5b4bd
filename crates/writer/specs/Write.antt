-- What `write` answers, and every byte of the output.
use Rattle.std.specs.Prelude.{Bool, true, cond, ◌&&◌, ◌||◌, List, [], ◌∷◌, ◌++◌, ℕ, zero, suc, ◌+◌, ◌*◌, ◌/◌, eqb, ltb, length, get_or, drop, Result, Ok, Err}
use Rattle.kernel.specs.Bits.{pack}
use Rattle.kernel.specs.Answer.{unread}
use Rattle.kernel.specs.declared.Refusal.{Refusal}
use Rattle.records.specs.declared.Stream.{Stream}
use Rattle.records.specs.declared.Record.{Record}
use Rattle.records.specs.Valid.{valid_of}
use Rattle.element.specs.Mux.{streams_of}
use Rattle.writer.specs.Written.{Sent, sum_of, element_bits, size_of}

-- a fixed slot has its own size
abbrev pub slot_fits : Stream → ℕ → Bool
slot_fits s n = eqb s.kind 0 || eqb n (s.fixed + 20)

-- each of a row of slots does
unfoldable pub row_fits : List Stream → List ℕ → Bool
row_fits [] ns = true
row_fits (s ∷ ss) ns = slot_fits s (get_or ns 0 0) && row_fits ss (drop 1 ns)

-- of n subframes
unfoldable pub slots_fit : ℕ → List Stream → List ℕ → Bool
slots_fit zero ss ns = true
slots_fit (suc n) ss ns = row_fits ss ns && slots_fit n ss (drop (length ss) ns)

-- the bytes of other data
abbrev pub other_bytes : Record → ℕ
other_bytes r = cond (eqb r.other 1) ((r.bits + 7) / 8) 0

-- what 17 does not refuse
abbrev pub fits : Sent → Bool
fits w =
    eqb (length w.lengths) ((w.config.subframes + 1) * length (streams_of w.config))
    && (slots_fit (w.config.subframes + 1) (streams_of w.config) w.lengths
    && (eqb (length w.payload) (sum_of (length w.lengths) w.lengths)
    && eqb (length w.other) (other_bytes w.config)))

-- 16, 17, 18, 19, or the bytes written
abbrev pub written_of : Sent → ℕ → Result ℕ Refusal
written_of w room =
    cond (valid_of w.config)
    (cond (fits w)
    (cond (ltb 8191 (size_of w)) (Err (unread 18))
    (cond (ltb room (size_of w)) (Err (unread 19)) (Ok (size_of w))))
    (Err (unread 17)))
    (Err (unread 16))

-- the output afterwards: the element and what stood behind it, or as it stood
abbrev pub out_after : Sent → List ℕ → Result ℕ Refusal → List ℕ
out_after w out (Ok n) = pack n (element_bits w) ++ drop n out
out_after w out (Err x) = out
