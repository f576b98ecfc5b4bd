-- What each function promises: the number that it answers, and what then stands in all that is lent. The claims that a
-- promise allows one result speak of these.
use Rattle.std.specs.Prelude.{◌≡◌, List, ℕ, length, ℤ}
use Rattle.records.specs.declared.Record.{Record}
use Rattle.sync.specs.Sync.{hunt_of, framed_of}
use Rattle.sync.specs.Sync as sync
use Rattle.element.specs.Reply.{verdict_of, map_after}
use Rattle.writer.specs.Written.{Sent}
use Rattle.writer.specs.Write.{written_of, out_after}
use Rattle.schilfauge.specs.Lent.{number_of, found_after, answer_in, held_after, answer_words, row_number}
use Rattle.schilfauge.specs.Lent.{row_after, told_after}

-- of a capture, a start and the words lent; the last is these words afterwards
abbrev pub HuntPromise : List ℕ → ℕ → List ℕ → ℕ → List ℕ → Type 0
HuntPromise s start found r found' =
    let h = hunt_of s start in
    (r ≡ number_of h) × (found' ≡ found_after found h)

-- of an element, the words held and the map; the last three are held, map and answer afterwards
abbrev pub ReadPromise : List ℕ → List ℕ → List ℕ → ℕ → List ℕ → List ℕ → List ℕ → Type 0
ReadPromise s w map r w' map' told' =
    let z = answer_in s w (length map) in
    (r ≡ number_of (verdict_of z))
    × ((w' ≡ held_after w z) × ((map' ≡ map_after map z) × (told' ≡ answer_words (verdict_of z))))

-- of a record, a program, a layer and the words lent; the last is these words afterwards
abbrev pub RowPromise : Record → ℕ → ℕ → List ℤ → ℕ → List ℤ → Type 0
RowPromise config program layer row r row' = (r ≡ row_number config) × (row' ≡ row_after row config program layer)

-- of what is to be written, the output and its size; the last two are both afterwards
abbrev pub WritePromise : Sent → List ℕ → ℕ → ℕ → List ℕ → ℕ → Type 0
WritePromise w out size r out' size' =
    let z = written_of w (length out) in
    (r ≡ number_of z) × ((out' ≡ out_after w out z) × (size' ≡ told_after size z))

-- of an element, the output and its size; the last two are both afterwards
abbrev pub FramePromise : List ℕ → List ℕ → ℕ → ℕ → List ℕ → ℕ → Type 0
FramePromise s out size r out' size' =
    let z = framed_of s (length out) in
    (r ≡ number_of z) × ((out' ≡ sync.out_after s out z) × (size' ≡ told_after size z))
