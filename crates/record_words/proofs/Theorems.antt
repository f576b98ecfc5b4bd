-- The theorem of each claim of specs/Claims.antt.
use mathlib.Core.Path.{◌≡◌, refl, sym, ◌∙◌}
use mathlib.Core.Bool.{Bool, true, false, cond, ◌&&◌}
use mathlib.Core.Logic.{◌⊎◌, inl, inr}
use mathlib.Core.List.{List, ◌++◌}
use Prim.Native.Nat.{ℕ, ◌≤◌}
use native.Mathlib.Omega.{arith}
use lib.Dec.{leb}
use lib.ListN.{length, take, length-append}
use borrow.Author.Tests.{leb-true}
use Rattle.kernel.specs.Lists.{all_of}
use Rattle.kernel.proofs.Lists.{length-tab}
use Rattle.kernel.proofs.Tests.{both}
use Rattle.records.specs.Blank.{no_record}
use Rattle.records.specs.Table.{streams_in}
use Rattle.record_words.specs.Words.{record_size, words_of, record_from, same_words, record_in}
use Rattle.record_words.specs.Claims.{LaidIsFound, FoundHasTheWords, BlankIsRefused, LaidOnce}
use Rattle.record_words.proofs.Words.{length_words, found_record, same_ahead, same_are, is_record}

pub laid_is_found : LaidIsFound
laid_is_found r rest k l =
    let n : length (words_of r) ≡ record_size = length_words r k l in
    let b : record_size ≤ length (words_of r ++ rest) = rw length-append (omega (arith, n)) in
    is_record (words_of r ++ rest) r (found_record r rest k l) b (same_ahead (words_of r) rest n)

found_by_law : (w : List ℕ) (t : Bool) → (leb record_size (length w) && same_words (words_of (record_from w)) w) ≡ t
    → (words_of (cond t (record_from w) no_record) ≡ take record_size w) ⊎ (cond t (record_from w) no_record ≡ no_record)
found_by_law w true h =
    let q = both (leb record_size (length w)) (same_words (words_of (record_from w)) w) h in
    inl (same_are (words_of (record_from w)) w (length_words (record_from w) (length-tab 16 _) (length-tab 16 _))
    (leb-true record_size (length w) q.0) q.1)
found_by_law w false h = inr refl

pub found_has_the_words : FoundHasTheWords
unfolding record_in
found_has_the_words w = found_by_law w _ refl

pub blank_is_refused : BlankIsRefused
unfolding all_of streams_in
blank_is_refused = refl

pub laid_once : LaidOnce
laid_once r words words₁ words₂ x y p q = (p.0 ∙ sym q.0, p.1 ∙ sym q.1)
