-- The contract of each public function allows one answer, and one content of what is lent.
use Rattle.std.proofs.Common.{◌≡◌, sym, ◌∙◌, List, ℕ}
use Rattle.kernel.specs.Promises.{AllowsOne, AllowsOneOutcome, AllowsOneOfWriter}
use Rattle.kernel.proofs.Theorems.{fetched_once, reached_once, stored_once}
use Rattle.kernel.proofs.Puts.{one_writer}
use Rattle.kernel.proofs.refused_at.Reads as refused_at
use Rattle.kernel.proofs.unread.Reads as unread
use Rattle.kernel.proofs.fetch.Reads as fetch
use Rattle.kernel.proofs.skip.Reads as skip
use Rattle.kernel.proofs.BitWriter.new.Reads as new
use Rattle.kernel.proofs.BitWriter.put.Reads as put
use Rattle.kernel.proofs.BitWriter.put_bytes.Reads as put_bytes
use Rattle.kernel.proofs.BitWriter.put_some.Reads as put_some
use Rattle.kernel.proofs.store.Reads as store
use Rattle.kernel.proofs.lay.Reads as lay

pub refused_at_allows_one : AllowsOne refused_at.Learnt (λ k r e. r)
refused_at_allows_one k a x y e f p q = p ∙ sym q

pub unread_allows_one : AllowsOne unread.Learnt (λ k r e. r)
unread_allows_one k a x y e f p q = p ∙ sym q

pub fetch_allows_one : AllowsOne fetch.Learnt (λ k r e. r)
fetch_allows_one k a x y e f p q = fetched_once _ _ _ x y p q

pub skip_allows_one : AllowsOne skip.Learnt (λ k r e. r)
skip_allows_one k a x y e f p q = reached_once _ _ _ x y p q

pub new_allows_one : AllowsOne new.Learnt {X = List ℕ × ℕ} (λ k r e. (r.out.now, r.at))
new_allows_one k a x y e f p q =
    let s : x.out.now ≡ y.out.now = p.1.0 ∙ sym q.1.0 in
    let t : x.at ≡ y.at = p.1.1 ∙ sym q.1.1 in
    λ i. (s i, t i)

pub put_allows_one : AllowsOneOfWriter put.Learnt (λ k e. e.0.now)
put_allows_one k a x y e f g h p q = one_writer g h p q

pub put_bytes_allows_one : AllowsOneOfWriter put_bytes.Learnt (λ k e. e.0.now)
put_bytes_allows_one k a x y e f g h p q = one_writer g h p q

pub put_some_allows_one : AllowsOneOfWriter put_some.Learnt (λ k e. e.0.now)
put_some_allows_one k a x y e f g h p q = one_writer g h p q

pub store_allows_one : AllowsOne store.Learnt (λ k r e. e.0.now)
store_allows_one k a x y e f p q = p ∙ sym q

pub lay_allows_one : AllowsOneOutcome lay.Learnt (λ k e. e.0.now)
lay_allows_one k a x y e f p q = stored_once _ _ _ _ _ _ x y p.1 q.1
