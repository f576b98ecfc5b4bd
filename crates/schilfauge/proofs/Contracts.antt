-- The contract of each public function allows one answer, and one content of what is lent.
use mathlib.Core.List.{List}
use Prim.Native.Nat.{ℕ}
use Rattle.kernel.specs.Promises.{AllowsOneOutcome}
use Rattle.record_words.specs.Words.{record_in}
use Rattle.schilfauge.specs.Lent.{sent_in}
use Rattle.schilfauge.proofs.Theorems.{hunt_once, read_once, row_once, write_once, frame_once}
use Rattle.schilfauge.proofs.schilf_hunt.Reads as schilf_hunt
use Rattle.schilfauge.proofs.schilf_read.Reads as schilf_read
use Rattle.schilfauge.proofs.schilf_row.Reads as schilf_row
use Rattle.schilfauge.proofs.schilf_write.Reads as schilf_write
use Rattle.schilfauge.proofs.schilf_frame.Reads as schilf_frame

pub schilf_hunt_allows_one : AllowsOneOutcome schilf_hunt.Learnt (λ k e. e.1.1.0.now)
schilf_hunt_allows_one k a x y e f p q = hunt_once a.0.now a.1.0 a.1.1.0.now _ _ x y p q

pub schilf_read_allows_one : AllowsOneOutcome schilf_read.Learnt {X = List ℕ × List ℕ
    × List ℕ} (λ k e. (e.1.0.now, e.1.1.0.now, e.1.1.1.0.now))
schilf_read_allows_one k a x y e f p q =
    let s = read_once a.0.now a.1.0.now a.1.1.0.now _ _ _ _ _ _ x y p q in
    (s.0, λ i. (s.1 i, s.2 i, s.3 i))

pub schilf_row_allows_one : AllowsOneOutcome schilf_row.Learnt (λ k e. e.1.1.1.0.now)
schilf_row_allows_one k a x y e f p q =
    row_once (record_in a.0.now) a.1.0 a.1.1.0 a.1.1.1.0.now _ _ x y p q

pub schilf_write_allows_one : AllowsOneOutcome schilf_write.Learnt {X = List ℕ
    × ℕ} (λ k e. (e.1.1.1.1.1.0.now, e.1.1.1.1.1.1.0.now))
schilf_write_allows_one k a x y e f p q =
    let s =
    write_once (sent_in a.0.now a.1.0 a.1.1.0.now a.1.1.1.0.now a.1.1.1.1.0.now)
    a.1.1.1.1.1.0.now _ _ a.1.1.1.1.1.1.0.now _ _ x y p q in (s.0, λ i. (s.1 i, s.2 i))

pub schilf_frame_allows_one : AllowsOneOutcome schilf_frame.Learnt {X = List ℕ
    × ℕ} (λ k e. (e.1.0.now, e.1.1.0.now))
schilf_frame_allows_one k a x y e f p q =
    let s = frame_once a.0.now a.1.0.now _ _ a.1.1.0.now _ _ x y p q in (s.0, λ i. (s.1 i, s.2 i))
