-- Laws of the blocks of the listing.
use mathlib.Core.Path.{◌≡◌, sym, ◌∙◌, ap, subst}
use mathlib.Core.Bool.{false}
use mathlib.Core.List.{List}
use Prim.Native.Nat.{ℕ, ◌<◌, ◌≤◌}
use lib.ListN.{length}
use Rattle.kernel.specs.Lists.{Stored}
use Rattle.capture.specs.declared.Block.{Block}
use Rattle.capture.specs.declared.Mark.{Mark}
use Rattle.capture.specs.declared.Step.{Step}
use Rattle.capture.specs.Frames.{Point, mark_of, OfPoint, Took}
use Rattle.capture.specs.Blocks.{block_room}
use Rattle.capture.proofs.Blocks.{further_on}
use Rattle.listing_blocks.specs.declared.Listing.{Listing}
use Rattle.listing_blocks.specs.Listing.{records}
use Rattle.listing_blocks.specs.Laid.{verdict_lines, BlockPromise}
use Rattle.listing_blocks.proofs.Lines.{listed_is}

-- the records of a step's frame are those of its verdict
pub laid_frame : {s : List ℕ} {c : Point} {map map' : List ℕ} {table table' : List (List ℕ)} {r : Step} {from : Mark}
    {out out' : List ℕ} {at to : ℕ} → from ≡ mark_of c → (t : Took s 4368 c map map' table table' r)
    → Stored out at (verdict_lines from.number r.verdict map') out' to → Stored out at (records.text tt t.seen) out' to
laid_frame {map = map} {map' = map'} {r = r} {from = from} {out = out} {out' = out'} {at = at} {to = to} mark t p =
    let e : verdict_lines from.number r.verdict map' ≡ records.text tt t.seen =
    rw (mark, t.step, t.map_after_law, ← t.number) (listed_is t.seen.number map t.seen.reading) in
    subst (λ (b : List ℕ). Stored out at b out' to) e p

module _ (s out : List ℕ) {out' : List ℕ} {mark : Mark} {r : Block Listing} (o : OfPoint mark)
    (p : BlockPromise s mark out r out') where
  pub block_of_law : OfPoint r.reached.mark
  block_of_law = record { point = _; is = ap (λ (x : Block Listing). x.reached.mark) (p o.point o.is).0 }

  -- behind a block that is not the last the capture is come further
  pub block_on : 26208 ≤ block_room (length out) → r.ended ≡ false
      → (mark.at < r.reached.mark.at) × (r.reached.mark.at ≤ length s)
  block_on h f =
      let b = (p o.point o.is).0 in
      let e = sym (ap (λ (x : Block Listing). x.ended) b) ∙ f in
      rw (ap (λ (x : Block Listing). x.reached.mark) b, o.is)
      (further_on records (block_room (length out)) s 4368 tt o.point h e)
