-- The promises of `reader`, each under a name that its function and the claims share.
use Rattle.std.specs.Prelude.{◌≡◌, List, ℕ, length}
use Rattle.element.specs.Held.{Held}
use Rattle.element.specs.declared.Reply.{Reply}
use Rattle.element.specs.Reply.{answer, map_after, table_after, reply_of}

-- `read`, with the map before and after it
abbrev pub ReadPromise : List ℕ → Held → List ℕ → Reply → List ℕ → Type 0
ReadPromise s held map r map' = (r ≡ reply_of s held (length map)) × (map' ≡ map_after map (answer s held (length map)))

-- `read_with`, with the table too
abbrev pub ReadWithPromise : List ℕ → Held → List ℕ → List (List ℕ) → Reply → List ℕ → List (List ℕ) → Type 0
ReadWithPromise s held map table r map' table' =
    ReadPromise s held map r map' × (table' ≡ table_after table (answer s held (length map)))
