-- What is claimed of words. proofs/Theorems.antt has the theorem of each.
use Rattle.std.specs.Prelude.{◌≡◌, Bool, false, ◌⊎◌, List, ◌++◌, ℕ, length, take}
use Rattle.records.specs.declared.Record.{Record}
use Rattle.records.specs.Blank.{no_record}
use Rattle.records.specs.Valid.{valid_of}
use Rattle.record_words.specs.Words.{record_size, words_of, record_in}
use Rattle.record_words.specs.Promises.{LayPromise}

-- a record laid is found again, whatever stands behind it; an array has 16 places
abbrev pub LaidIsFound : Type 0
LaidIsFound =
    (r : Record) (rest : List ℕ) → length r.layers ≡ 16 → length r.streams ≡ 16 → record_in (words_of r ++ rest) ≡ r

-- a record found has the words it was found in, or it is the blank one
abbrev pub FoundHasTheWords : Type 0
FoundHasTheWords = (w : List ℕ) → (words_of (record_in w) ≡ take record_size w) ⊎ (record_in w ≡ no_record)

-- which 16 refuses
abbrev pub BlankIsRefused : Type 0
BlankIsRefused = valid_of no_record ≡ false

-- the promise of `lay_record` allows one answer and one content of the words
abbrev pub LaidOnce : Type 0
LaidOnce =
    (r : Record) (words words₁ words₂ : List ℕ) (x y : Bool) → LayPromise r words x words₁
    → LayPromise r words y words₂ → (x ≡ y) × (words₁ ≡ words₂)
