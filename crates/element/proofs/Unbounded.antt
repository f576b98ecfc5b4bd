-- The bound of MuxSlotLengthBytes is never met.
use mathlib.Core.Path.{◌≡◌, refl, sym, ◌∙◌, subst}
use mathlib.Core.Bool.{Bool, true, false}
use mathlib.Core.List.{List}
use Prim.Native.Nat.{ℕ, zero, suc, ◌+◌, ◌*◌, ◌<◌, ◌≤◌}
use native.Mathlib.Omega.{arith}
use lib.Dec.{ltb, eqb}
use lib.ListN.{length}
use borrow.Author.Tests.{ltb-true, ltb-false, eqb-true, eqb-false}
use Rattle.kernel.specs.declared.Window.TheVariants.{Open}
use Rattle.kernel.specs.Bits.{value_at}
use Rattle.kernel.specs.Reading.{Reading, give, field, choose, ◌>>=◌, Outcome, gave, refused, stop, run}
use Rattle.kernel.proofs.Run.{field_in, field_out}
use Rattle.element.specs.Mux.{slot_from, mux_slot_length_bytes}
use Rattle.element.specs.Claims.{Full, Added, ends, cut, SlotIsUnbounded}

none_full : (s : List ℕ) (at : ℕ) → at ≤ 8 * length s → Full s at 0
none_full s at h = record { inside = omega arith; ones = λ j l. absurd (omega arith) }

full_more : (s : List ℕ) (at k : ℕ) → value_at s at 8 ≡ 255 → Full s (at + 8) k → Full s at (suc k)
full_more s at k e f =
    record {
      inside = omega (arith, f.inside);
      ones = λ j. elim j as (λ i. i < suc k → value_at s (at + 8 * i) 8 ≡ 255) [
        | zero ↦ λ l. let p : at + 8 * 0 ≡ at = omega arith in rw p e
        | suc i ↦ λ l. let p : at + 8 * suc i ≡ at + 8 + 8 * i = omega arith in rw p (f.ones i (omega arith))
      ];
    }

-- a byte of 255 in front
added_more : (s : List ℕ) (v at n : ℕ) (o : Outcome ℕ) → value_at s at 8 ≡ 255 → Added s (v + 255) (at + 8) (n + 1) o
    → Added s v at n o
added_more s v at n o e (ends k b f l h u q) =
    let x : v + 255 + 255 * k + b ≡ v + 255 * suc k + b = omega arith in
    let y : at + 8 + 8 * (k + 1) ≡ at + 8 * (suc k + 1) = omega arith in
    let z : n + 1 + (k + 1) ≡ n + (suc k + 1) = omega arith in
    let p : at + 8 * suc k ≡ at + 8 + 8 * k = omega arith in
    ends (suc k) b (full_more s at k e f) (omega arith) (rw p h) u (q ∙ λ i. gave (x i) (y i) (z i))
added_more s v at n o e (cut k f l q) =
    let y : at + 8 + 8 * k ≡ at + 8 * suc k = omega arith in
    let z : n + 1 + k ≡ n + suc k = omega arith in
    cut (suc k) (full_more s at k e f) (omega arith) (q ∙ λ i. refused (stop 3 (y i) 0 (z i)))

-- one byte, and the rest where it is 255
byte_then : ℕ → Reading ℕ → ℕ → Reading ℕ
byte_then v rest b = choose (eqb b 255) rest (give (v + b))

byte_added : (s : List ℕ) (rest : Reading ℕ) (v at n : ℕ) → at ≤ 8 * length s
    → (at + 8 ≤ 8 * length s → Added s (v + 255) (at + 8) (n + 1) (run s rest (at + 8) (n + 1)))
    → Added s v at n (run s (field Open 8 >>= byte_then v rest) at n)
unfolding byte_then choose run
byte_added s rest v at n l r = go (ltb (8 * length s) (at + 8)) refl (eqb (value_at s at 8) 255) refl
  where
    b : ℕ
    b = value_at s at 8

    go : (x : Bool) → ltb (8 * length s) (at + 8) ≡ x → (y : Bool) → eqb b 255 ≡ y
        → Added s v at n (run s (field Open 8 >>= byte_then v rest) at n)
    go true e y u =
        let h : 8 * length s < at + 8 = ltb-true (8 * length s) (at + 8) e in
        let p : at ≡ at + 8 * 0 = omega arith in
        let q : n ≡ n + 0 = omega arith in
        cut 0 (none_full s at l) (omega arith) (field_out s 8 at n (byte_then v rest) h
        ∙ λ i. refused (stop 3 (p i) 0 (q i)))
    go false e true u =
        let h : at + 8 ≤ 8 * length s = ltb-false (8 * length s) (at + 8) e in
        subst (Added s v at n) (sym (field_in s 8 at n (byte_then v rest) h ∙ rw u))
        (added_more s v at n _ (eqb-true b 255 u) (r h))
    go false e false u =
        let h : at + 8 ≤ 8 * length s = ltb-false (8 * length s) (at + 8) e in
        let x : v + b ≡ v + 255 * 0 + b = omega arith in
        let y : at + 8 ≡ at + 8 * (0 + 1) = omega arith in
        let z : n + 1 ≡ n + (0 + 1) = omega arith in
        let p : at + 8 * 0 ≡ at = omega arith in
        let c : run s (byte_then v rest b) (at + 8) (n + 1) ≡ gave (v + b) (at + 8) (n + 1) = rw u in
        ends 0 b (none_full s at l) (omega arith) (rw p) (eqb-false b 255 u) (field_in s 8 at n (byte_then v rest) h
        ∙ c ∙ λ j. gave (x j) (y j) (z j))

slot_added : (s : List ℕ) (f v at n : ℕ) → at ≤ 8 * length s → 8 * length s < at + 8 * f
    → Added s v at n (run s (slot_from f v) at n)
unfolding slot_from byte_then
slot_added s zero v at n l h = absurd (omega arith)
slot_added s (suc f) v at n l h =
    byte_added s (slot_from f (v + 255)) v at n l (λ i. slot_added s f (v + 255) (at + 8) (n + 1) i (omega arith))

pub slot_unbounded : SlotIsUnbounded
unfolding mux_slot_length_bytes
slot_unbounded s at n l h = slot_added s _ 0 at n h (omega arith)
