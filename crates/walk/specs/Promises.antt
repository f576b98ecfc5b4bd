-- What the walk's functions ask for and promise, under names that function and claim share.
use Rattle.std.specs.Prelude.{◌≡◌, Bool, List, [], ℕ, ◌+◌, ◌-◌, ◌*◌, ◌≤◌, ◌<◌, length, drop, replicate}
use Rattle.std.specs.Prelude.{Option, Result, IfOk}
use Rattle.kernel.specs.declared.Cursor.{Cursor}
use Rattle.kernel.specs.declared.Read.{Read}
use Rattle.kernel.specs.declared.Refusal.{Refusal}
use Rattle.kernel.specs.Reading.{Stands}
use Rattle.kernel.specs.Answer.{told}
use Rattle.kernel.specs.Element.{walk}
use Rattle.element.specs.declared.Accepted.{Accepted}
use Rattle.element.specs.Mux.{payload_length_info}
use Rattle.walk.specs.declared.Plan.{Plan}
use Rattle.walk.specs.declared.Walked.{Walked}
use Rattle.walk.specs.Plan.{slots_by, planned}
use Rattle.walk.specs.Parts.{taken, fronted, verdict_from, map_from}

-- where a walk may begin: at a cursor that a reader may stand at, behind so few items that there is room for `more`; the
-- map, if it has any place, has one for all items that an element may have
abbrev pub Ready : List ℕ → Walked → List ℕ → ℕ → Type 0
Ready s w map more = Stands s w.cursor × (w.items + more ≤ 1092) × (0 < length map → 4368 ≤ length map)

-- `lengths_of`: zeros stand behind the widths of the streams
abbrev pub LengthsPromise : List (Option ℕ) → List ℕ → Cursor → Result (Read (List ℕ)) Refusal → Type 0
LengthsPromise slots s c r =
    (taken (length slots) r ≡ told s (payload_length_info [] (slots_by slots)) c)
    × IfOk r (λ ws. drop (length slots) ws.value ≡ replicate (16 - length slots) 0)

-- `finish`, of what follows the configuration, with the map before and after it
abbrev pub FinishPromise : Bool → List ℕ → Plan → Cursor → List ℕ → Result Accepted Refusal → List ℕ → Type 0
FinishPromise sent s plan c map v map' =
    let p = fronted sent c.at (walk s (planned plan) c.at c.fields) in
    (v ≡ verdict_from sent (8 * length s) p) × (map' ≡ map_from map (8 * length s) p)
