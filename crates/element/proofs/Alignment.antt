-- The last item of an accepted element is alignment, and less than a byte.
use mathlib.Core.Path.{◌≡◌, refl, sym, ap, ◌∙◌}
use mathlib.Core.Bool.{Bool, true, false}
use mathlib.Core.List.{List, [], ◌∷◌, ◌++◌, append_assoc, append-nil}
use Prim.Native.Nat.{ℕ, ◌+◌}
use native.Mathlib.Omega.{arith}
use lib.Dec.{eqb}
use Rattle.kernel.specs.Element.{Item, Element, done, follow, accepted, walk, read}
use Rattle.records.specs.declared.Record.{Record}
use Rattle.config.specs.Mux.{stream_mux_config}
use Rattle.element.specs.Held.{Held, config_held, usable}
use Rattle.element.specs.Mux.{kind_u, kind_c, Applied, subframes, other_data, byte_alignment, streams_of, slots_of}
use Rattle.element.specs.Mux.{body, applied, use_same_stream_mux, after_flag, audio_mux_element, rest}
use Rattle.element.specs.Claims.{EndsShort}
use Rattle.kernel.proofs.Came.{Came, gave_any, came_any, came_so, came_over, came_part, came_follow, came_read}

-- whatever stands before
ends_behind : (its js : List Item) → EndsShort js → EndsShort (its ++ js)
ends_behind its js e = record {
  before = its ++ e.before;
  last = e.last;
  stands = ap (λ (y : List Item). its ++ y) e.stands ∙ sym (append_assoc its e.before (e.last ∷ []));
  aligns = e.aligns;
  short = e.short;
}

module _ (s : List ℕ) where
  -- from any bit on, e comes through with a short alignment at its end
  abbrev Ends : {A : Type 0} → Element A → Type 0
  Ends e = (at n : ℕ) → Came (λ _ its. EndsShort its) (walk s e at n)

  alignment_ends : Ends byte_alignment
  unfolding byte_alignment walk Came
  alignment_ends at n =
      came_over s _ _ _ _ _ (done tt) at n
      (record { before = []; last = _; stands = refl; aligns = refl; short = omega arith })

  follow_ends : {A B : Type 0} (e : Element A) (g : A → Element B) → ((a : A) → Ends (g a)) → Ends (follow e g)
  follow_ends e g h at n =
      came_follow s (λ _ _. Unit {0}) (λ _ its. EndsShort its) e g at n (came_any _)
      (λ a its at' n' _. came_so _ (λ b js q. ends_behind its js q) (h a at' n'))

  applied_ends : (a : Applied) → Ends (applied a)
  unfolding applied rest walk Came
  applied_ends a at n =
      came_follow s (λ _ its. EndsShort its) (λ _ its. EndsShort its) (body a.config) (λ _. done a) at n
      (follow_ends (subframes (a.config.subframes + 1) (slots_of (streams_of a.config))) _
      (λ _. follow_ends (other_data (eqb a.config.other 1) a.config.bits) _ (λ _. alignment_ends)) at n)
      (λ _ its at' n' p. rw (append-nil its) p)

  after_ends : (same : Bool) (held : Record) → Ends (after_flag same held)
  unfolding after_flag
  after_ends true held at n = applied_ends _ at n
  after_ends false held at n =
      came_part s _ (λ _. Unit {0}) kind_c stream_mux_config (λ r. applied (record { sent = true; config = r })) at n
      (gave_any _)
      (λ r at' n' _. came_so _ (λ b js q. ends_behind (_ ∷ []) js q) (applied_ends _ at' n'))

  pub element_ends_short : (held : Held) (a : Applied) (its : List Item) (n : ℕ)
      → read s (audio_mux_element held) ≡ accepted a its n → EndsShort its
  unfolding audio_mux_element
  element_ends_short held a its n =
      came_read s (λ _ js. EndsShort js) (audio_mux_element held) a its n
      (came_part s _ (λ _. Unit {0}) kind_u (use_same_stream_mux (usable held))
      (λ u. after_flag (eqb u 1) (config_held held)) 0 0 (gave_any _)
      (λ u at' n' _. came_so _ (λ b js q. ends_behind (_ ∷ []) js q)
      (after_ends (eqb u 1) (config_held held) at' n')))
