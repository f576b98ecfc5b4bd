-- What the functions below `finish` promise: what their part of the element comes to, and what then stands in the map.
use Rattle.std.specs.Prelude.{Bool, true, false, cond, List, [], ◌∷◌, ◌++◌, ℕ, ◌+◌, ◌*◌, ◌-◌, eqb, length, take, drop}
use Rattle.std.specs.Prelude.{Result, Ok, Err}
use Rattle.std.proofs.lemmas.List.Edits.{sets}
use Rattle.kernel.specs.declared.Read.{Read}
use Rattle.kernel.specs.declared.Refusal.{Refusal}
use Rattle.kernel.specs.Reading.{refused_at}
use Rattle.kernel.specs.Element.{Element, Item, Passage, came, fell, walk, fields, item, with_item}
use Rattle.element.specs.declared.Accepted.{Accepted}
use Rattle.element.specs.Mux.{kind_u, kind_c}
use Rattle.element.specs.Reply.{numbers, accepts}
use Rattle.walk.specs.declared.Walked.{Walked}

-- how far a walk comes where k items stood before it
abbrev pub come : {A : Type 0} → ℕ → Passage A → Result Walked Refusal
come k (came a its at n) = Ok (record { items = k + length its; cursor = record { at = at; fields = n } })
come k (fell r its) = Err r.refusal

-- the items that a walk made
abbrev pub made : {A : Type 0} → Passage A → List Item
made (came a its at n) = its
made (fell r its) = its

-- how far the walk of e over s comes from w on,
unfoldable pub walked : {A : Type 0} → List ℕ → Element A → Walked → Result Walked Refusal
walked s e w = come w.items (walk s e w.cursor.at w.cursor.fields)

-- and the map that it leaves: its items stand behind those that stood there; what has no place is dropped
unfoldable pub mapped : {A : Type 0} → List ℕ → Element A → Walked → List ℕ → List ℕ
mapped s e w map = sets map (4 * w.items) (numbers (made (walk s e w.cursor.at w.cursor.fields)))

-- the first k values, where a reading gave some
abbrev pub taken : ℕ → Result (Read (List ℕ)) Refusal → Result (Read (List ℕ)) Refusal
taken k (Ok r) = Ok (record { value = take k r.value; next = r.next })
taken k (Err x) = Err x

-- the items in front of the rest: the flag, and the configuration where one was sent, up to bit `at`
abbrev pub fronted : {A : Type 0} → Bool → ℕ → Passage A → Passage A
fronted true at x = with_item (item fields kind_u 0 0 1) (with_item (item fields kind_c 0 1 (at - 1)) x)
fronted false at x = with_item (item fields kind_u 0 0 1) x

-- their numbers in the map
abbrev pub front_numbers : Bool → ℕ → List ℕ
front_numbers true at = kind_u ∷ 0 ∷ 0 ∷ 1 ∷ kind_c ∷ 0 ∷ 1 ∷ (at - 1) ∷ []
front_numbers false at = kind_u ∷ 0 ∷ 0 ∷ 1 ∷ []

-- and how many they are
abbrev pub front_count : Bool → ℕ
front_count true = 2
front_count false = 1

-- the verdict of a whole walk, in an element of so many bits,
abbrev pub verdict_from : Bool → ℕ → Passage Unit → Result Accepted Refusal
verdict_from sent bits (came a its at n) = cond (eqb at bits) (accepts (length its) n sent) (Err (refused_at 15 at n))
verdict_from sent bits (fell r its) = Err r.refusal

-- and its map: as it stood, unless the walk ends where the bytes do
abbrev pub map_from : List ℕ → ℕ → Passage Unit → List ℕ
map_from map bits (came a its at n) = cond (eqb at bits) (numbers its ++ drop (4 * length its) map) map
map_from map bits (fell r its) = map
