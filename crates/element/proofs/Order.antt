-- The items of an accepted element stand in the order of the map.
use mathlib.Core.Path.{◌≡◌, refl, ap, ◌∙◌}
use mathlib.Core.Bool.{Bool, true, false, cond}
use mathlib.Core.List.{List, [], ◌∷◌, ◌++◌, append-nil}
use Prim.Native.Nat.{ℕ, zero, suc, ◌+◌}
use native.Mathlib.Omega.{arith}
use lib.Dec.{eqb}
use lib.ListN.{length, length-append, length-map}
use Rattle.kernel.specs.Reading.{Reading, run}
use Rattle.kernel.specs.Element.{Passing, Item, Element, done, over, follow, accepted, walk, read}
use Rattle.kernel.proofs.Theorems.{bind_runs_as_parts}
use Rattle.records.specs.declared.Record.{Record}
use Rattle.config.specs.Mux.{stream_mux_config}
use Rattle.element.specs.Held.{Held, config_held, usable}
use Rattle.element.specs.Mux.{kind_u, kind_c, kind_l, kind_p, kind_o, kind_a, Applied, payload_length_info, payload_mux}
use Rattle.element.specs.Mux.{subframe, subframes, other_data, byte_alignment, streams_of, slots_of, body, applied}
use Rattle.element.specs.Mux.{use_same_stream_mux, after_flag, audio_mux_element, rest}
use Rattle.element.specs.Claims.{marks, payload_marks, subframe_marks, body_marks, config_marks, order_of}
use Rattle.kernel.proofs.Came.{Gave, Came, gave_any, gave_after, came_so, came_over, came_part, came_follow, came_read}

-- ---- as many lengths as streams

many_lengths : (s : List ℕ) (k : ℕ) (ws : List ℕ) (slots : List (Reading ℕ)) (at n : ℕ) → length ws + length slots ≡ k
    → Gave (λ vs. length vs ≡ k) (run s (payload_length_info ws slots) at n)
unfolding payload_length_info run Gave
many_lengths s k ws [] at n h = omega arith
many_lengths s k ws (slot ∷ slots) at n h =
    rw (bind_runs_as_parts slot (λ w. payload_length_info (ws ++ (w ∷ [])) slots) s at n)
    (gave_after (λ vs. length vs ≡ k) (run s slot at n) _
    (λ w p m. many_lengths s k (ws ++ (w ∷ [])) slots p m (omega (arith, length-append ws (w ∷ [])))))

-- ---- behind the configuration

marks_append : (its js : List Item) → marks (its ++ js) ≡ marks its ++ marks js
unfolding marks
marks_append [] js = refl
marks_append (it ∷ its) js = rw (marks_append its js)

module _ (s : List ℕ) where
  -- from any bit on, the items that e makes are marked so
  abbrev Marks : Element Unit → List ℕ → Type 0
  Marks e ms = (at n : ℕ) → Came (λ _ its. marks its ≡ ms) (walk s e at n)

  done_marks : Marks (done tt) []
  unfolding walk Came marks
  done_marks at n = refl

  over_marks : (c : Passing) (kind stream w : ℕ) (e : Element Unit) (ms : List ℕ) → Marks e ms
      → Marks (over c kind stream w e) (kind ∷ stream ∷ ms)
  unfolding marks
  over_marks c kind stream w e ms h at n =
      came_over s _ c kind stream w e at n
      (came_so _ (λ a its q. ap (λ (y : List ℕ). kind ∷ stream ∷ y) q) (h (at + w) n))

  follow_marks : (e : Element Unit) (g : Unit → Element Unit) (ms ns : List ℕ) → Marks e ms
      → ((a : Unit) → Marks (g a) ns) → Marks (follow e g) (ms ++ ns)
  follow_marks e g ms ns h k at n =
      came_follow s (λ _ its. marks its ≡ ms) (λ _ its. marks its ≡ ms ++ ns) e g at n (h at n)
      (λ a its at' n' p. came_so {P = λ _ js. marks js ≡ ns} _ (λ b js q. rw (marks_append its js, p, q)) (k a at' n'))

  payloads_mark : (i : ℕ) (ws : List ℕ) → Marks (payload_mux i ws) (payload_marks i (length ws))
  unfolding payload_mux payload_marks
  payloads_mark i [] = done_marks
  payloads_mark i (w ∷ ws) = over_marks _ kind_p i w (payload_mux (i + 1) ws) _ (payloads_mark (i + 1) ws)

  subframe_marks_law : (k : ℕ) (slots : List (Reading ℕ)) → length slots ≡ k
      → Marks (subframe slots) (kind_l ∷ 0 ∷ payload_marks 0 k)
  unfolding subframe marks
  subframe_marks_law k slots e at n =
      came_part s _ (λ ws. length ws ≡ k) kind_l (payload_length_info [] slots) (λ ws. payload_mux 0 ws) at n
      (many_lengths s k [] slots at n (omega arith))
      (λ ws at' n' l. came_so _ (λ a its q. ap (λ (y : List ℕ). kind_l ∷ 0 ∷ y) (q ∙ ap (payload_marks 0) l))
      (payloads_mark 0 ws at' n'))

  subframes_mark : (m k : ℕ) (slots : List (Reading ℕ)) → length slots ≡ k
      → Marks (subframes m slots) (subframe_marks m k)
  unfolding subframes subframe_marks
  subframes_mark zero k slots e = done_marks
  subframes_mark (suc m) k slots e =
      follow_marks (subframe slots) (λ _. subframes m slots) _ _ (subframe_marks_law k slots e)
      (λ _. subframes_mark m k slots e)

  other_marks : (present : Bool) (w : ℕ) → Marks (other_data present w) (cond present (kind_o ∷ 0 ∷ []) [])
  unfolding other_data
  other_marks true w = over_marks _ kind_o 0 w (done tt) [] done_marks
  other_marks false w = done_marks

  alignment_marks : Marks byte_alignment (kind_a ∷ 0 ∷ [])
  unfolding byte_alignment walk
  alignment_marks at n = over_marks _ kind_a 0 _ (done tt) [] done_marks at n

  body_marks_law : (r : Record) → Marks (body r) (body_marks r)
  unfolding rest
  body_marks_law r =
      let ss = streams_of r in
      follow_marks (subframes (r.subframes + 1) (slots_of ss)) _ _ _
      (subframes_mark (r.subframes + 1) (length ss) (slots_of ss) (length-map ss _))
      (λ _. follow_marks (other_data (eqb r.other 1) r.bits) _ _ _ (other_marks (eqb r.other 1) r.bits)
      (λ _. alignment_marks))

  -- ---- from the flag on

  applied_marks : (a : Applied) (at n : ℕ)
      → Came (λ b its. (b ≡ a) × (marks its ≡ body_marks a.config)) (walk s (applied a) at n)
  unfolding applied walk Came
  applied_marks a at n =
      came_follow s (λ _ its. marks its ≡ body_marks a.config) (λ b its. (b ≡ a)
      × (marks its ≡ body_marks a.config)) (body a.config) (λ _. done a) at n
      (body_marks_law a.config at n) (λ _ its at' n' p. (refl, ap marks (append-nil its) ∙ p))

  after_marks : (same : Bool) (held : Record) (at n : ℕ)
      → Came (λ a its. marks its ≡ config_marks a) (walk s (after_flag same held) at n)
  unfolding after_flag marks
  after_marks true held at n =
      let a : Applied = record { sent = false; config = held } in
      came_so _ (λ b its q. rw q.0 q.1) (applied_marks a at n)
  after_marks false held at n =
      came_part s _ (λ _. Unit {0}) kind_c stream_mux_config (λ r. applied (record { sent = true; config = r })) at n
      (gave_any _)
      (λ r at' n' _. let a : Applied = record { sent = true; config = r } in
      came_so _ (λ b its q. rw q.0 (ap (λ (y : List ℕ). kind_c ∷ 0 ∷ y) q.1)) (applied_marks a at' n'))

  pub element_in_order : (held : Held) (a : Applied) (its : List Item) (n : ℕ)
      → read s (audio_mux_element held) ≡ accepted a its n → marks its ≡ order_of a
  unfolding audio_mux_element marks
  element_in_order held a its n =
      came_read s (λ b js. marks js ≡ order_of b) (audio_mux_element held) a its n
      (came_part s _ (λ _. Unit {0}) kind_u (use_same_stream_mux (usable held))
      (λ u. after_flag (eqb u 1) (config_held held)) 0 0 (gave_any _)
      (λ u at' n' _. came_so _ (λ b js q. ap (λ (y : List ℕ). kind_u ∷ 0 ∷ y) q)
      (after_marks (eqb u 1) (config_held held) at' n')))
