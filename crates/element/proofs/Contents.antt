-- The items of an element have the content of their kind.
use mathlib.Core.List.{List, [], ◌∷◌}
use Prim.Native.Nat.{ℕ, ◌*◌}
use lib.ListN.{length}
use Rattle.kernel.specs.Element.{Item, walk, read, items_of}
use Rattle.kernel.proofs.Kept.{Each, each_end}
use Rattle.element.specs.Held.{Held}
use Rattle.element.specs.Mux.{audio_mux_element}
use Rattle.element.specs.Claims.{EachByKind}
use Rattle.element.proofs.Productions.{OfKind, AppliedOk, Refuses, walked}

by_kind : (its : List Item) → Each OfKind its → EachByKind its
unfolding Each EachByKind
by_kind [] h = tt
by_kind (it ∷ its) h = (h.0, by_kind its h.1)

pub element_by_kind : (s : List ℕ) (held : Held) → EachByKind (items_of (read s (audio_mux_element held)))
element_by_kind s held =
    by_kind _ (each_end (Refuses s held) OfKind (AppliedOk held) (8 * length s) (walk s (audio_mux_element held) 0 0)
    (walked s held))
