-- Laws of the words of a refusal.
use mathlib.Core.Path.{◌≡◌, refl, sym}
use mathlib.Core.Bool.{Bool, true}
use mathlib.Core.List.{List, [], ◌∷◌, map}
use Prim.Native.Nat.{ℕ, zero, suc, ◌≤◌}
use Prim.Native.String.{String}
use borrow.Author.Tests.{leb-true}
use denote.Ref.{Bor}
use lib.Dec.{leb}
use lib.ListN.{length, get_or, get_or-map}
use Rattle.std.specs.List.{list_all}
use Rattle.kernel.proofs.Tests.{both}
use Rattle.text.specs.Text.{letters}
use Rattle.text.specs.Words.{unknown, refusals, words_of}

-- the bytes of an entry
pub bytes_at : (table : List (Bor (List ℕ))) (i : ℕ) (other : Bor (List ℕ))
    → (get_or table i other).now ≡ get_or (map (λ words. words.now) table) i other.now
bytes_at table i other = sym (get_or-map (λ words. words.now) table i other)

pub table_words : (number : ℕ) → get_or (map letters refusals) number (letters unknown) ≡ words_of number
table_words number = get_or-map letters refusals number unknown

abbrev few : String → Bool
few words = leb (length (letters words)) 68

few_at : (all : List String) (number : ℕ) → list_all few all ≡ true → few (get_or all number unknown) ≡ true
few_at [] number h = refl
few_at (words ∷ all) zero h = (both (few words) (list_all few all) h).0
few_at (words ∷ all) (suc number) h = few_at all number (both (few words) (list_all few all) h).1

-- none has more than 68 letters
pub words_few : {words : List ℕ} (number : ℕ) → words ≡ words_of number → length words ≤ 68
words_few number e = rw e (leb-true (length (words_of number)) 68 (few_at refusals number refl))
