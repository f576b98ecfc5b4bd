-- The bit of useSameConfig in the bytes written.
use mathlib.Core.Path.{◌≡◌, refl, sym, ap}
use mathlib.Core.Bool.{Bool, true, false, cond}
use mathlib.Core.List.{List, [], ◌∷◌, ◌++◌, append_assoc}
use Prim.Native.Nat.{ℕ, ◌+◌, ◌-◌, ◌*◌}
use native.Mathlib.Omega.{arith}
use lib.ListN.{length, length-append}
use Rattle.kernel.specs.Exactly.{Exactly}
use Rattle.kernel.specs.Bits.{bit_at, bit, bits_of, unpack, pack}
use Rattle.kernel.specs.Element.{fields}
use Rattle.kernel.proofs.Lists.{Begins}
use Rattle.kernel.proofs.Bits.{bit_exactly, length-bits_of}
use Rattle.kernel.proofs.Held.{unpack-append, unpack-pack, unpack_holds}
use Rattle.records.specs.declared.Record.{Record}
use Rattle.config.specs.Mux.{config_at, mux_bits}
use Rattle.config.specs.Claims.{bits_before, SaysSame}
use Rattle.element.specs.Mux.{kind_u}
use Rattle.writer.specs.Written.{Piece, piece, bits_in, config_pieces, Sent, element_bits}
use Rattle.writer.proofs.Answers.{slots, others}

front_begins : (t : Bool) (r : Record) (x y : List Piece) → t ≡ true
    → Begins (bits_in ((piece fields kind_u 0 (bits_of 1 (cond t 0 1)) ∷ (config_pieces t r ++ x)) ++ y)) (bits_of 1 0
    ++ mux_bits r)
unfolding bits_in
front_begins true r x y e =
    record { rest = bits_in (x ++ y); is = sym (append_assoc (bits_of 1 0) (mux_bits r) (bits_in (x ++ y))) }
front_begins false r x y e = absurd (let z : bit false ≡ bit true = ap bit e in omega arith)

sent_begins : (w : Sent) → w.send ≡ true → Begins (element_bits w) (bits_of 1 0 ++ mux_bits w.config)
sent_begins w e = front_begins w.send w.config (slots w ++ others w) _ e

module _ (w : Sent) (n : ℕ) (behind : List ℕ) (whole : length (element_bits w) ≡ 8 * n) (sent : w.send ≡ true) where
  pub bit_says : (p l i : ℕ) → SaysSame w.config p l i
      → Exactly (bit_at (pack n (element_bits w) ++ behind) (1 + length (bits_before w.config p l))
      ≡ 1) (config_at w.config.streams (i - 1) ≡ config_at w.config.streams i)
  bit_says p l i h =
      let front = bits_of 1 0 ++ bits_before w.config p l in
      let b = sent_begins w sent in
      let rest = h.more ++ (h.behind ++ (b.rest ++ unpack behind)) in
      let e : unpack (pack n (element_bits w) ++ behind) ≡ front ++ ((h.same ∷ []) ++ rest) =
      rw (unpack-append, unpack-pack n (element_bits w) whole, b.is, h.stands) (simp append_assoc refl) in
      let k : length front ≡ 1 + length (bits_before w.config p l) = simp (length-append, length-bits_of) refl in
      bit_exactly h.same (rw k at (unpack_holds (pack n (element_bits w) ++ behind) front (h.same ∷ []) rest e).0)
      h.says
