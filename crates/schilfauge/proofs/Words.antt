-- What the functions below the outer ones promise, as the words lent.
use mathlib.Core.Path.{◌≡◌, refl, ap}
use mathlib.Core.List.{List, [], ◌∷◌, ◌++◌}
use Prim.Native.Nat.{ℕ, ◌+◌}
use lib.ListN.{length, get_or, replicate}
use lib.Seq.{get_or-append_seam}
use Rattle.std.specs.Prelude.{Some}
use Rattle.records.specs.declared.Record.{Record}
use Rattle.record_words.specs.Words.{record_size, words_of, laid_in}
use Rattle.record_words.proofs.Theorems.{laid_is_found}
use Rattle.record_words.proofs.Words.{length_words}
use Rattle.schilfauge.specs.Lent.{held_in, held_words}

-- a record laid over ones is present
pub laid_held : (r : Record) → laid_in (replicate (record_size + 1) 1) r ≡ held_words r
unfolding laid_in
laid_held r = refl

-- the word behind those of a record
word_behind : (b : List ℕ) → length b ≡ record_size → get_or (b ++ (1 ∷ [])) record_size 0 ≡ 1
word_behind b n = rw n at (get_or-append_seam b 1 [] 0)

-- and is found so
pub held_laid : (r : Record) → length r.layers ≡ 16 → length r.streams ≡ 16
    → held_in (held_words r) ≡ Some r
held_laid r k l =
    let e = word_behind (words_of r) (length_words r k l) in
    let f = laid_is_found r (1 ∷ []) k l in
    rw e (ap Some f)
