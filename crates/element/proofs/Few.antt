-- How many items the order of a map has, where 16 does not refuse the record: 64 subframes of 1 + 16 items at most, and
-- four more.
use mathlib.Core.Path.{◌≡◌, refl, ap, sym, ◌∙◌}
use mathlib.Core.Bool.{Bool, true, false, cond}
use mathlib.Core.List.{List, [], ◌∷◌}
use Prim.Native.Nat.{ℕ, zero, suc, ◌+◌, ◌*◌, ◌≤◌}
use native.Mathlib.Omega.{arith}
use lib.Dec.{eqb}
use lib.ListN.{length, length-take, length-append}
use lib.Seq.{length-take-le}
use Rattle.kernel.specs.Element.{Item}
use Rattle.records.specs.declared.Record.{Record}
use Rattle.records.specs.Table.{streams_in}
use Rattle.records.specs.Valid.{valid_of}
use Rattle.records.proofs.Apart.{record_ok}
use Rattle.records.proofs.Tables.{streams_end}
use Rattle.element.specs.Mux.{kind_o, Applied, streams_of}
use Rattle.element.specs.Claims.{marks, payload_marks, subframe_marks, body_marks, order_of, StreamsAreAll}

length_marks : (its : List Item) → length (marks its) ≡ 2 * length its
unfolding marks
length_marks [] = refl
length_marks (it ∷ its) = omega (arith, length_marks its)

length_payload_marks : (i k : ℕ) → length (payload_marks i k) ≡ 2 * k
unfolding payload_marks
length_payload_marks i zero = refl
length_payload_marks i (suc k) = omega (arith, length_payload_marks (i + 1) k)

few_subframe_marks : (n k : ℕ) → k ≤ 16 → length (subframe_marks n k) ≤ 34 * n
unfolding subframe_marks
few_subframe_marks zero k h = omega arith
few_subframe_marks (suc n) k h = rw length-append (omega (arith, length_payload_marks 0 k, few_subframe_marks n k h))

pub few_streams : (r : Record) → valid_of r ≡ true → length (streams_of r) ≤ 16
few_streams r v = omega (arith, (record_ok r v).count, length-take (streams_in r.layers r.programs 16) r.streams)

few_other_marks : (t : Bool) → length (cond t (kind_o ∷ 0 ∷ []) []) ≤ 2
few_other_marks true = omega arith
few_other_marks false = omega arith

few_body_marks : (r : Record) → valid_of r ≡ true → length (body_marks r) ≤ 2180
few_body_marks r v =
    rw (length-append, length-append)
    (omega (
      arith,
      (record_ok r v).subframes,
      few_subframe_marks (r.subframes + 1) (length (streams_of r))
          (few_streams r v),
      few_other_marks (eqb r.other 1),
    ))

few_config_marks : (t : Bool) (b : List ℕ) → length b ≤ 2180 → length (cond t (2 ∷ 0 ∷ b) b) ≤ 2182
few_config_marks true b h = omega arith
few_config_marks false b h = omega arith

pub few_items : (a : Applied) (its : List Item) → valid_of a.config ≡ true → marks its ≡ order_of a → length its ≤ 1092
few_items a its v e =
    let n : 2 * length its ≡ length (order_of a) = sym (length_marks its) ∙ ap length e in
    omega (arith, n, few_config_marks a.sent (body_marks a.config) (few_body_marks a.config v))

pub all_streams : StreamsAreAll
all_streams r v l =
    let h = record_ok r v in
    length-take-le _ r.streams (omega (arith, h.count)) ∙ streams_end r.layers r.programs h.programs
