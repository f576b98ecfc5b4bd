-- What `read_with` leaves behind, and the items that the numbers of a map show.
use Rattle.std.specs.Prelude.{cond, ◌||◌, List, [], ◌∷◌, ℕ, zero, suc, eqb, length, get_or, drop}
use Rattle.kernel.specs.Element.{closed, spare, Content, fields, passed, Item, item, Answer}
use Rattle.element.specs.Held.{Held}
use Rattle.element.specs.declared.Reply.{Reply}
use Rattle.element.specs.Mux.{kind_p, kind_o, kind_a, Applied}
use Rattle.element.specs.Reply.{answer, reply_with, map_after, table_after}

-- payload and other data are closed, alignment is spare, and the other items are read field by field
abbrev pub content_of : ℕ → Content
content_of kind = cond (eqb kind kind_p || eqb kind kind_o) (passed closed) (cond (eqb kind kind_a) (passed spare) fields)

-- the first k items of a map: kind, stream, first bit and width of each
unfoldable pub shown : ℕ → List ℕ → List Item
shown zero map = []
shown (suc k) map =
    item (content_of (get_or map 0 0)) (get_or map 0 0) (get_or map 1 0) (get_or map 2 0) (get_or map 3 0) ∷ shown k (drop 4 map)

-- the verdict with what is then held, and the final content of the map and the table lent
pub record Left : Type 0 where
  pub reply : Reply
  pub map : List ℕ
  pub table : List (List ℕ)

-- by the answer to an element
abbrev pub left_by : Held → List ℕ → List (List ℕ) → Answer Applied → Left
left_by held map table x = record { reply = reply_with held x; map = map_after map x; table = table_after table x }

-- of the element s, with what was held and lent before it
abbrev pub left_of : List ℕ → Held → List ℕ → List (List ℕ) → Left
left_of s held map table = left_by held map table (answer s held (length map))
