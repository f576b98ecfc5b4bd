-- The digits of a record say its figures: no figure of an element has more digits than its places.
use mathlib.Core.Path.{◌≡◌, refl}
use mathlib.Core.List.{List, [], ◌∷◌}
use Prim.Native.Nat.{ℕ, ◌+◌, ◌*◌, ◌-◌, ◌/◌, ◌≤◌, ◌<◌}
use native.Mathlib.Omega.{arith}
use lib.ListN.{length}
use Rattle.kernel.specs.Element.{Item, Tiles, Answer, accepted, rejected}
use Rattle.sync.specs.Sync.{element_at}
use Rattle.element.specs.Held.{Held}
use Rattle.element.specs.Mux.{Applied}
use Rattle.element.specs.Reply.{answer}
use Rattle.element.specs.Claims.{EachBelow}
use Rattle.element.proofs.Theorems.{accepted_fits, items_tile, streams_are_few, refusal_is_numbered, figures_are_small}
use Rattle.capture.specs.Frames.{Seen, start}
use Rattle.capture.proofs.Frames.{each_frame}
use Rattle.listing_blocks.specs.Listing.{digit_at, line_of}
use Rattle.listing_blocks.specs.Claims.{said, all_said, EachSaid, Said, NothingIsLost}

-- a number by its digits, each beside the number that ends with it
joined : (a b c d e n x₅ x₄ x₃ x₂ x₁ x₀ : ℕ) → x₅ ≡ a → 10 * a + x₄ ≡ b → 10 * b + x₃ ≡ c → 10 * c + x₂ ≡ d
    → 10 * d + x₁ ≡ e → 10 * e + x₀ ≡ n
    → 10 * (10 * (10 * (10 * (10 * (10 * 0 + (48 + x₅ - 48)) + (48 + x₄ - 48)) + (48 + x₃ - 48)) + (48 + x₂ - 48)) +
    (48 + x₁ - 48)) + (48 + x₀ - 48) ≡ n
joined a b c d e n x₅ x₄ x₃ x₂ x₁ x₀ p q r s t u = omega arith

six : (n : ℕ) → n < 1000000
    → 10 * (10 *
    (10 * (10 * (10 * (10 * 0 + (digit_at n 100000 - 48)) + (digit_at n 10000 - 48)) + (digit_at n 1000 - 48)) +
    (digit_at n 100 - 48)) + (digit_at n 10 - 48)) + (digit_at n 1 - 48) ≡ n
six n h =
    joined (n / 100000) (n / 10000) (n / 1000) (n / 100) (n / 10) n _ _ _ _ _ _
    (omega arith) (omega arith) (omega arith) (omega arith) (omega arith) (omega arith)

five : (n : ℕ) → n < 100000
    → 10 * (10 * (10 * (10 * (10 * 0 + (digit_at n 10000 - 48)) + (digit_at n 1000 - 48)) + (digit_at n 100 - 48)) +
    (digit_at n 10 - 48)) + (digit_at n 1 - 48) ≡ n
five n h =
    joined 0 (n / 10000) (n / 1000) (n / 100) (n / 10) n 0 _ _ _ _ _
    refl (omega arith) (omega arith) (omega arith) (omega arith) (omega arith)

two : (n : ℕ) → n < 100 → 10 * (10 * 0 + (digit_at n 10 - 48)) + (digit_at n 1 - 48) ≡ n
two n h = omega arith

line_says : (number letter stream first width : ℕ) → number < 1000000 → stream < 100 → first < 100000 → width < 100000
    → all_said (line_of number letter stream first width) ≡ number ∷ letter ∷ stream ∷ first ∷ width ∷ []
unfolding said line_of
line_says number letter stream first width a b c d = rw (six number a, two stream b, five first c, five width d)

-- items that tile up to a bit start by then
tiled : (p e : ℕ) (its : List Item) → Tiles p its e → p ≤ e
unfolding Tiles
tiled p e [] h = omega arith
tiled p e (it ∷ its) h = omega (arith, tiled (p + it.width) e its h.1)

each_said : (number p e : ℕ) (its : List Item) → number < 1000000 → e < 100000 → Tiles p its e → EachBelow 16 its
    → EachSaid number its
unfolding Tiles EachBelow EachSaid
each_said number p e [] n l t b = tt
each_said number p e (it ∷ its) n l t b =
    let w = tiled (p + it.width) e its t.1 in (
      line_says number _ it.stream it.first it.width n (omega arith) (omega arith)
          (omega arith),
      each_said number (p + it.width) e its n l t.1 b.1,
    )

module _ (s : List ℕ) (held : Held) (number : ℕ) (few : number < 1000000) where
  said_of : (x : Answer Applied) → answer s held 4368 ≡ x → Said number x
  said_of (accepted a its n) h =
      let l = accepted_fits s held 4368 a its n h in
      each_said number 0 (8 * length s) its few (omega (arith, l.2)) (items_tile s held 4368 a its n h)
      (streams_are_few s held 4368 a its n h)
  said_of (rejected r its) h =
      let n = refusal_is_numbered s held 4368 r its h in
      let f : (r.refusal.place ≤ 65528) × (r.refusal.fields ≤ 65528) = rw h at (figures_are_small s held 4368) in
      line_says number 88 r.refusal.number r.refusal.place r.refusal.fields few (omega arith) (omega arith)
      (omega arith)

pub all_said_law : NothingIsLost
all_said_law s =
    each_frame s 4368 (λ (m : Seen). Said m.number m.reading)
    (λ c p n few. said_of (element_at s p n) c.held c.number (omega arith)
    (answer (element_at s p n) c.held 4368) refl) (length s) start (omega arith)
