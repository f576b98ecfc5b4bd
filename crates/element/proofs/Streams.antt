-- The streams that the items of an accepted element name are 0 to 15.
use mathlib.Core.Path.{◌≡◌}
use mathlib.Core.Bool.{Bool, true, false, cond}
use mathlib.Core.List.{List, [], ◌∷◌, ◌++◌, append_assoc}
use Prim.Native.Nat.{ℕ, zero, suc, ◌+◌, ◌≤◌, ◌<◌}
use native.Mathlib.Omega.{arith}
use lib.Dec.{eqb}
use lib.ListN.{length}
use Rattle.kernel.specs.Element.{Item}
use Rattle.records.specs.Valid.{valid_of}
use Rattle.element.specs.Mux.{kind_o, kind_a, Applied, streams_of}
use Rattle.element.specs.Claims.{EachBelow, marks, payload_marks, subframe_marks, body_marks, config_marks, order_of}
use Rattle.element.proofs.Few.{few_streams}

-- of kinds and streams in turn, each stream is below k
unfoldable Below : ℕ → List ℕ → Type 0
Below k [] = Unit {0}
Below k (x ∷ []) = Unit {0}
Below k (x ∷ i ∷ ms) = (i < k) × Below k ms

below_marks : (k : ℕ) (its : List Item) → Below k (marks its) → EachBelow k its
unfolding Below marks EachBelow
below_marks k [] h = tt
below_marks k (it ∷ its) h = (h.0, below_marks k its h.1)

below_payloads : (k i n : ℕ) (more : List ℕ) → i + n ≤ k → Below k more → Below k (payload_marks i n ++ more)
unfolding Below payload_marks
below_payloads k i zero more l h = h
below_payloads k i (suc n) more l h = (omega arith, below_payloads k (i + 1) n more (omega arith) h)

below_subframes : (k n m : ℕ) (more : List ℕ) → 1 ≤ k → m ≤ k → Below k more → Below k (subframe_marks n m ++ more)
unfolding Below subframe_marks
below_subframes k zero m more one l h = h
below_subframes k (suc n) m more one l h =
    rw (append_assoc (payload_marks 0 m) (subframe_marks n m) more) (
      omega arith,
      below_payloads k 0 m (subframe_marks n m
          ++ more) (omega arith) (below_subframes k n m more one l h),
    )

below_end : (k : ℕ) (other : Bool) → 1 ≤ k → Below k (cond other (kind_o ∷ 0 ∷ []) [] ++ (kind_a ∷ 0 ∷ []))
unfolding Below
below_end k true one = (omega arith, (omega arith, tt))
below_end k false one = (omega arith, tt)

below_config : (k : ℕ) (a : Applied) (sent : Bool) → 1 ≤ k → Below k (body_marks a.config)
    → Below k (config_marks (record { sent = sent; config = a.config }))
unfolding Below
below_config k a true one h = (omega arith, h)
below_config k a false one h = h

pub streams_below : (a : Applied) (its : List Item) → valid_of a.config ≡ true → marks its ≡ order_of a
    → EachBelow 16 its
unfolding Below
streams_below a its h e =
    let r = a.config in
    below_marks 16 its (rw e (
      omega arith,
      below_config 16 a a.sent (omega arith)
          (below_subframes 16 (r.subframes + 1) (length (streams_of r)) _ (omega arith) (few_streams r h)
          (below_end 16 (eqb r.other 1) (omega arith))),
    ))
