-- The contract of each public function allows one answer, and one content of what is lent.
use mathlib.Core.Path.{sym, ◌∙◌}
use Prim.Native.Nat.{◌*◌}
use native.Mathlib.Omega.{arith}
use Rattle.kernel.specs.Promises.{AllowsOne, AllowsOneOfBytes}
use Rattle.kernel.proofs.Theorems.{put_fixes_all}
use Rattle.items.proofs.item_at.Reads as item_at
use Rattle.items.proofs.copy_item.Reads as copy_item

pub item_at_allows_one : AllowsOne item_at.Learnt (λ k r e. r)
item_at_allows_one k a x y e f p q = p ∙ sym q

pub copy_item_allows_one : AllowsOneOfBytes copy_item.Learnt (λ k e. e.1.1.0.now)
copy_item_allows_one k a x y e f g h p q =
    let s = put_fixes_all _ _ _ _ _ (8 * x) (8 * y) g h p.1 q.1 in
    (omega (arith, s.0), s.1)
