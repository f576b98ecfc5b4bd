-- The promise that is more than one equation, under a name that its function and the claim that it allows one result
-- share.
use Rattle.std.specs.Prelude.{◌≡◌, Bool, List, ℕ, leb, length}
use Rattle.records.specs.declared.Record.{Record}
use Rattle.record_words.specs.Words.{record_size, laid_in}

-- `lay_record`, with the words before and after it: whether there is room, and what is laid
abbrev pub LayPromise : Record → List ℕ → Bool → List ℕ → Type 0
LayPromise r words x words' = (x ≡ leb record_size (length words)) × (words' ≡ laid_in words r)
