-- Laws of pieces: one run of them after another, and what reads them back.
use mathlib.Core.Path.{◌≡◌, refl}
use mathlib.Core.Bool.{Bool}
use mathlib.Core.List.{List, [], ◌∷◌, ◌++◌, append_assoc}
use Prim.Native.Nat.{ℕ, ◌+◌}
use native.Mathlib.Nat.{add-zero}
use native.Mathlib.Omega.{arith}
use lib.ListN.{length, length-append}
use Rattle.kernel.specs.declared.Window.TheVariants.{Open}
use Rattle.kernel.specs.Reading.{Reading}
use Rattle.kernel.specs.Element.{Element, done, part, over, spot, follow, Passing, fields, passed}
use Rattle.kernel.specs.Trip.{Reads, ReadsAll}
use Rattle.kernel.proofs.Trip.{reads_done, reads_part, reads_over, reads_spot, reads_follow}
use Rattle.writer.specs.Written.{Piece, piece, bits_in, items_at}

pub bits_append : (ps qs : List Piece) → bits_in (ps ++ qs) ≡ bits_in ps ++ bits_in qs
unfolding bits_in
bits_append [] qs = refl
bits_append (p ∷ ps) qs = rw (bits_append ps qs, append_assoc)

pub items_append : (ps qs : List Piece) (at : ℕ)
    → items_at at (ps ++ qs) ≡ items_at at ps ++ items_at (at + length (bits_in ps)) qs
unfolding bits_in items_at
items_append [] qs at = rw add-zero
items_append (p ∷ ps) qs at =
    let e : at + length (p.bits ++ bits_in ps)
    ≡ at + length p.bits + length (bits_in ps) = simp length-append (omega arith) in
    rw (items_append ps qs (at + length p.bits), e)

-- from bit `at`, the element e reads these pieces, gives a and makes their items
pub record Spelt {A : Type 0} (at : ℕ) (e : Element A) (ps : List Piece) (a : A) : Type 0 where
  pub reads : ReadsAll at e (bits_in ps) a (items_at at ps)

module _ {A : Type 0} where
  pub spelt_done : {at : ℕ} {a : A} → Spelt at (done a) [] a
  unfolding bits_in items_at
  spelt_done = record { reads = reads_done }

  pub spelt_part : {B : Type 0} {at kind : ℕ} {m : Reading B} {x : List Bool} {ps : List Piece} {b : B} {a : A} (f : B
      → Element A)
      → Reads Open at m x b → Spelt (at + length x) (f b) ps a
      → Spelt at (part B kind m f) (piece fields kind 0 x ∷ ps) a
  unfolding bits_in items_at
  spelt_part f r q = record { reads = reads_part f r q.reads }

  pub spelt_over : {at kind stream w : ℕ} {c : Passing} {e : Element A} {ps : List Piece} {a : A} (x : List Bool)
      → length x ≡ w
      → Spelt (at + w) e ps a → Spelt at (over c kind stream w e) (piece (passed c) kind stream x ∷ ps) a
  unfolding bits_in items_at
  spelt_over x l q = record { reads = rw l (reads_over x l q.reads) }

  pub spelt_follow : {B : Type 0} {at : ℕ} {e : Element B} {ps qs : List Piece} {b : B} {a : A} (g : B → Element A)
      → Spelt at e ps b → Spelt (at + length (bits_in ps)) (g b) qs a → Spelt at (follow e g) (ps ++ qs) a
  spelt_follow {at} {ps} {qs} g r q =
      record { reads = rw (bits_append ps qs, items_append ps qs at) (reads_follow g r.reads q.reads) }

  pub spelt_spot : {at : ℕ} {ps : List Piece} {a : A} (f : ℕ → Element A) → Spelt at (f at) ps a
      → Spelt at (spot f) ps a
  spelt_spot f r = record { reads = reads_spot f r.reads }
