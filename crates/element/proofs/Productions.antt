-- What every production of an element keeps to: it refuses by a number of 01's table, by 4 only where nothing is held,
-- each item has the content of its kind, and what applies is valid.
use mathlib.Core.Path.{◌≡◌, refl, sym, ◌∙◌}
use mathlib.Core.Bool.{Bool, true, false, not, ◌||◌}
use mathlib.Core.List.{List, [], ◌∷◌, ◌++◌}
use Prim.Native.Nat.{ℕ, zero, suc, ◌+◌, ◌*◌, ◌≤◌}
use native.Mathlib.Omega.{arith}
use lib.Dec.{leb, ltb, eqb}
use lib.ListN.{length}
use borrow.Author.Tests.{leb-true, eqb-true, eqb-false, ne_eqb, not-true}
use Rattle.kernel.specs.declared.Window.TheVariants.{Open}
use Rattle.kernel.specs.Bits.{bit_at, value_at}
use Rattle.kernel.specs.Reading.{◌>>=◌, ◌>>◌, give, field, need, fit, run}
use Rattle.kernel.specs.Element.{Content, part_item, Element, Passage, walk}
use Rattle.kernel.proofs.Values.{value_lt, value_one}
use Rattle.kernel.proofs.Tests as tests
use Rattle.kernel.proofs.Tests.{three, neither}
use Rattle.kernel.proofs.Induction.{by_part}
use Rattle.kernel.proofs.Kept.{chosen, Any, keeps_map, Kept, gives, either, a_field, on, fit_kept}
use Rattle.kernel.proofs.Kept.{OutcomeKept, out_fit, Each, KeepsAll, keeps_follow, PassageKept, kept_item, kept_so}
use Rattle.kernel.proofs.Kept.{walk_keeps, AnswerKept, told_end}
use Rattle.asc.proofs.Given.{Numbered}
use Rattle.records.specs.declared.Stream.{Stream}
use Rattle.records.specs.declared.Record.{Record}
use Rattle.config.proofs.Given.{ReadOk, mux}
use Rattle.element.specs.Held.{Held, config_held, usable}
use Rattle.element.specs.Mux.{kind_u, Applied, slot_from, mux_slot_length_bytes, slot_of, streams_of, slots_of}
use Rattle.element.specs.Mux.{payload_length_info, payload_mux, subframe, subframes, other_data, byte_alignment, rest}
use Rattle.element.specs.Mux.{applied, use_same_stream_mux, after_flag, audio_mux_element}
use Rattle.element.specs.Left.{content_of}
use Rattle.element.specs.Reply.{answer}

-- ---- what follows the configuration

slot_from_law : (n v : ℕ) → Kept Numbered Any (slot_from n v)
unfolding slot_from
slot_from_law zero v = gives tt
slot_from_law (suc n) v = on _ (a_field _ _) λ b _. either _ (λ _. slot_from_law n (v + 255)) (λ _. gives tt)

slot : (kind fixed : ℕ) → Kept Numbered Any (slot_of kind fixed)
unfolding slot_of mux_slot_length_bytes
slot kind fixed = either _ (λ _. on _ (slot_from_law _ _) λ v _. gives tt) (λ _. gives tt)

lengths : (ws : List ℕ) (ss : List Stream) → Kept Numbered Any (payload_length_info ws (slots_of ss))
unfolding payload_length_info
lengths ws [] = gives tt
lengths ws (s ∷ ss) = on _ (slot _ _) λ w _. lengths (ws ++ (w ∷ [])) ss

abbrev pub OfKind : Content → ℕ → Type 0
OfKind c kind = c ≡ content_of kind

-- with P of its answer
abbrev Produces : {A : Type 0} → (A → Type 0) → Element A → Type 0
Produces P e = KeepsAll Numbered OfKind P e

payloads : (i : ℕ) (ws : List ℕ) → Produces Any (payload_mux i ws)
unfolding KeepsAll payload_mux
payloads i [] = tt
payloads i (w ∷ ws) = (refl, payloads (i + 1) ws)

one_subframe : (ss : List Stream) → Produces Any (subframe (slots_of ss))
unfolding KeepsAll subframe
one_subframe ss =
    (refl, keeps_map Numbered Any (λ ws. Produces Any (payload_mux 0 ws)) _ (lengths [] ss).is (λ ws _. payloads 0 ws))

all_subframes : (n : ℕ) (ss : List Stream) → Produces Any (subframes n (slots_of ss))
unfolding KeepsAll subframes
all_subframes zero ss = tt
all_subframes (suc n) ss = keeps_follow Numbered OfKind Any Any _ _ (one_subframe ss) (λ _ _. all_subframes n ss)

other_data_law : (t : Bool) (w : ℕ) → Produces Any (other_data t w)
unfolding KeepsAll other_data
other_data_law true w = (refl, tt)
other_data_law false w = tt

alignment : Produces Any byte_alignment
unfolding KeepsAll byte_alignment
alignment = λ p. (refl, tt)

the_rest : (n : ℕ) (ss : List Stream) (t : Bool) (w : ℕ) → Produces Any (rest n (slots_of ss) t w)
unfolding rest
the_rest n ss t w =
    keeps_follow Numbered OfKind Any Any _ _ (all_subframes n ss)
    (λ _ _. keeps_follow Numbered OfKind Any Any _ _ (other_data_law t w) (λ _ _. alignment))

-- ---- what applies

-- where a configuration is sent: as it is read. Where none is: the one held, which is usable
abbrev pub Applies : Held → Bool → Record → Type 0
Applies held true r = ReadOk r
Applies held false r = (r ≡ (config_held held)) × (usable held ≡ true)

abbrev pub AppliedOk : Held → Applied → Type 0
AppliedOk held a = Applies held a.sent a.config

is_applied : (held : Held) (a : Applied) → AppliedOk held a → Produces (AppliedOk held) (applied a)
unfolding KeepsAll applied
is_applied held a h =
    keeps_follow Numbered OfKind Any (AppliedOk held) _ _ (the_rest _ (streams_of a.config) _ _) (λ _ _. h)

after_flag_law : (held : Held) (t : Bool) → (t ≡ true → usable held ≡ true)
    → Produces (AppliedOk held) (after_flag t (config_held held))
unfolding KeepsAll after_flag
after_flag_law held true h = is_applied held _ (refl, h refl)
after_flag_law held false h = (
  refl,
  keeps_map Numbered ReadOk (λ x. Produces (AppliedOk held) (applied (record { sent = true; config = x })))
      _ mux.is (λ x k. is_applied held _ k),
)

-- ---- the flag

-- the refusals of an element: 1 to 15, and 4 where its flag is 1 and nothing is held
abbrev pub Refuses : List ℕ → Held → ℕ → Type 0
Refuses s held m = (1 ≤ m) × (m ≤ 15) × (m ≡ 4 → (bit_at s 0 ≡ 1) × (usable held ≡ false))

behind_flag : (s : List ℕ) (held : Held) (m : ℕ) → Numbered m → Refuses s held m
behind_flag s held m h =
    let q = three (leb 3 m) (leb m 15) (not (eqb m 4)) h in
    let n : m ≡ 4 → ⊥ = eqb-false m 4 (not-true (eqb m 4) q.2) in
    (omega (arith, leb-true 3 m q.0), leb-true m 15 q.1, λ e. absurd (n e))

abbrev Flagged : Bool → ℕ → Type 0
Flagged held u = eqb u 1 ≡ true → held ≡ true

flag : (s : List ℕ) (held : Held)
    → OutcomeKept (Refuses s held) (Flagged (usable held)) (run s (use_same_stream_mux (usable held)) 0 0)
unfolding use_same_stream_mux run field need ◌>>=◌ ◌>>◌
flag s held =
    out_fit (Refuses s held) (Flagged (usable held)) (fit Open (8 * length s) 1) 0 0 _
    (fit_kept (Refuses s held) (behind_flag s held 3 refl) (behind_flag s held 10 refl) Open (8 * length s) 1)
    (go (eqb v 0 || usable held) refl)
  where
    v : ℕ
    v = value_at s 0 1

    go : (b : Bool) → (eqb v 0 || usable held) ≡ b
        → OutcomeKept (Refuses s held) (Flagged (usable held)) (run s (need b 4 1 >> give v) 1 1)
    go true e =
        λ q. let z : v ≡ 1 = eqb-true v 1 q in tests.either (eqb v 0) (usable held) e (ne_eqb v 0 (λ y. omega arith))
    go false e =
        let q = neither (eqb v 0) (usable held) e in
        let n : v ≡ 0 → ⊥ = eqb-false v 0 q.0 in
        let z : v ≡ 1 = omega (arith, value_lt s 0 1) in
        (omega arith, omega arith, λ _. (sym (value_one s 0) ∙ z, q.1))

-- ---- the element

pub walked : (s : List ℕ) (held : Held)
    → PassageKept (Refuses s held) OfKind (AppliedOk held) (walk s (audio_mux_element held) 0 0)
unfolding audio_mux_element Each
walked s held =
    by_part s 0 0 (PassageKept (Refuses s held) OfKind (AppliedOk held)) kind_u (use_same_stream_mux (usable held))
    (λ u. after_flag (eqb u 1) (config_held held))
    (λ u at n q.
    let x : Passage Applied = walk s (after_flag (eqb u 1) (config_held held)) at n in
    kept_item (Refuses s held) OfKind (AppliedOk held) (part_item kind_u 0 at) x refl
    (kept_so Numbered (Refuses s held) OfKind (AppliedOk held) x (behind_flag s held)
    (walk_keeps Numbered OfKind (AppliedOk held) refl refl s (after_flag (eqb u 1) (config_held held)) at n
    (after_flag_law held (eqb u 1) (rw q at (flag s held))))))
    (λ r q. (rw q at (flag s held), tt))

pub answered : (s : List ℕ) (held : Held) (room : ℕ) → AnswerKept (Refuses s held) (AppliedOk held) (answer s held room)
unfolding answer
answered s held room =
    chosen (AnswerKept (Refuses s held) (AppliedOk held)) (ltb room 4368) _ _
    (omega arith, omega arith, λ e. absurd (omega arith))
    (chosen (AnswerKept (Refuses s held) (AppliedOk held)) (eqb (length s) 0
    || ltb 8191 (length s)) _ _ (omega arith, omega arith, λ e. absurd (omega arith))
    (told_end (Refuses s held) OfKind (AppliedOk held) (behind_flag s held 15 refl) (8 * length s)
    (walk s (audio_mux_element held) 0 0) (walked s held)))
