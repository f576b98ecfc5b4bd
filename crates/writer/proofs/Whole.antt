-- The element whole: what is written, reads back.
use mathlib.Core.Path.{◌≡◌, refl, sym, ◌∙◌, ap}
use mathlib.Core.Bool.{Bool, true, false, cond}
use mathlib.Core.List.{List, [], ◌∷◌, ◌++◌, append-nil, append_assoc}
use mathlib.Core.Logic.{◌⊎◌, inl, inr}
use Prim.Native.Nat.{ℕ, ◌+◌, ◌-◌, ◌*◌, ◌/◌, ◌%◌, ◌≤◌}
use native.Mathlib.Omega.{arith}
use borrow.Author.Tests.{ltb-false, eqb-true, le-ltb, ne_eqb}
use lib.Dec.{eqb, ltb}
use lib.ListN.{length, take, length-append}
use lib.Seq.{take-length}
use Rattle.kernel.specs.Bits.{bit, bits_of, number, unpack, pack}
use Rattle.kernel.specs.Element.{count_of, read, fields, passed, closed}
use Rattle.kernel.proofs.Bits.{length-bits_of, no_number}
use Rattle.kernel.proofs.Held.{length-pack, unpack-pack}
use Rattle.kernel.proofs.Tests.{both, cond_says}
use Rattle.kernel.proofs.Trip.{packed_reads, accepted_is}
use Rattle.records.specs.declared.Record.{Record}
use Rattle.records.specs.Valid.{valid_of}
use Rattle.config.specs.Mux.{mux_bits}
use Rattle.config.proofs.Theorems.{record_reads_back}
use Rattle.std.specs.Prelude.{Some}
use Rattle.element.specs.Held.{Held, config_held, usable}
use Rattle.element.specs.Mux.{kind_u, kind_c, kind_p, kind_o, kind_a, audio_mux_element, streams_of}
use Rattle.element.specs.Reply.{answer}
use Rattle.std.specs.Prelude.{Result, Ok, Err}
use Rattle.kernel.specs.declared.Refusal.{Refusal}
use Rattle.writer.specs.Written.{Piece, piece, bits_in, items_at, sum_of, subframe_pieces, other_pieces, config_pieces}
use Rattle.writer.specs.Written.{Sent, content_pieces, alignment, pieces, element_bits, size_of}
use Rattle.writer.specs.Write.{slots_fit, other_bytes, fits, written_of}
use Rattle.writer.specs.Sizes.{length_bytes, front_bits}
use Rattle.writer.specs.Claims.{widths, Typed, ReadsBack}
use Rattle.writer.proofs.Pieces.{bits_append, Spelt}
use Rattle.writer.proofs.TripElement.{last_pieces, held_trip, sent_trip}
use Rattle.writer.proofs.Contents.{kept_bits, kept_widths, contents_kept, widths_kept, kept_append}
use Rattle.writer.proofs.Contents.{kept_widths_append, slots_kept, slots_widths, slots_none}
use Rattle.writer.proofs.Lengths.{slots_length, other_length_law}

-- ---- what an answer says

abbrev pub Says : Sent → ℕ → Result ℕ Refusal → Type 0
Says w room (Ok n) =
    (valid_of w.config ≡ true) × (fits w ≡ true) × (size_of w ≤ 8191) × (size_of w ≤ room) × (n ≡ size_of w)
Says w room (Err x) = Unit {0}

pub written_says : (w : Sent) (room : ℕ) → Says w room (written_of w room)
written_says w room =
    cond_says (Says w room) (valid_of w.config) _ _
    (λ v. cond_says (Says w room) (fits w) _ _
    (λ f. cond_says (Says w room) (ltb 8191 (size_of w)) _ _ (λ _. tt)
    (λ m. cond_says (Says w room) (ltb room (size_of w)) _ _ (λ _. tt)
    (λ r. (v, f, ltb-false 8191 (size_of w) m, ltb-false room (size_of w) r, refl))))
    (λ _. tt))
    (λ _. tt)

-- what 17 does not refuse
pub record Fits (w : Sent) : Type 0 where
  pub number : length w.lengths ≡ (w.config.subframes + 1) * length (streams_of w.config)
  pub slots : slots_fit (w.config.subframes + 1) (streams_of w.config) w.lengths ≡ true
  pub whole : length w.payload ≡ sum_of (length w.lengths) w.lengths
  pub enough : length w.other ≡ other_bytes w.config

pub fits_are : (w : Sent) → fits w ≡ true → Fits w
fits_are w h =
    let a = both (eqb (length w.lengths) ((w.config.subframes + 1) * length (streams_of w.config))) _ h in
    let b = both (slots_fit (w.config.subframes + 1) (streams_of w.config) w.lengths) _ a.1 in
    let c =
    both (eqb (length w.payload) (sum_of (length w.lengths) w.lengths))
    (eqb (length w.other) (other_bytes w.config)) b.1 in
    record {
      number = eqb-true _ _ a.0;
      slots = b.0;
      whole = eqb-true _ _ c.0;
      enough = eqb-true _ _ c.1;
    }

-- ---- how long it is

other_bound : (b : Bool) (bits : ℕ) {n : ℕ} → n ≡ cond b ((bits + 7) / 8) 0 → cond b bits 0 ≤ 65528 → n ≤ 8191
other_bound true bits e h = omega arith
other_bound false bits e h = omega arith

align_length : (at : ℕ) → length (bits_in (alignment at ∷ [])) ≡ (8 - at % 8) % 8
unfolding bits_in
align_length at = simp (length-append, length-bits_of) (omega arith)

front_some : (b : Bool) (r : Record) → 1 ≤ length (front_bits b r)
front_some b r = simp (length-append, length-bits_of) (omega arith)

module _ (w : Sent) (f : Fits w) where
  abbrev pub total : ℕ
  total = (w.config.subframes + 1) * length (streams_of w.config)

  pub whole_is : sum_of total w.lengths ≡ length w.payload
  whole_is = rw f.number at (sym f.whole)

  pub enough_is : eqb w.config.other 1 ≡ true → w.config.bits ≤ 8 * length w.other
  enough_is e = let q : length w.other ≡ (w.config.bits + 7) / 8 = f.enough ∙ rw e in omega (arith, q)

  abbrev pub slots_in : List Piece
  slots_in = subframe_pieces (w.config.subframes + 1) (streams_of w.config) w.lengths w.payload

  -- up to other data
  pub content_length : length (bits_in (content_pieces w))
      ≡ length (front_bits w.send w.config)
      + (8 * length_bytes (w.config.subframes + 1) (streams_of w.config) w.lengths + 8 * length w.payload)
      + cond (eqb w.config.other 1) w.config.bits 0
  unfolding bits_in
  content_length =
      let s =
      slots_length (w.config.subframes + 1) (streams_of w.config) w.lengths w.payload
      (omega (arith, whole_is)) in
      let o = other_length_law (eqb w.config.other 1) w.config.bits w.other enough_is in
      simp (
        bits_append (config_pieces w.send w.config) (slots_in
            ++ other_pieces w.config w.other),
        bits_append slots_in
            (other_pieces w.config w.other),
        length-append,
        length-bits_of,
      )
      (omega (arith, s, o, whole_is))

  -- with alignment
  pub bits_length : length (element_bits w)
      ≡ length (bits_in (content_pieces w)) + (8 - length (bits_in (content_pieces w)) % 8) % 8
  bits_length =
      let n = length (bits_in (content_pieces w)) in
      ap length (bits_append (content_pieces w) (alignment n ∷ []))
      ∙ length-append (bits_in (content_pieces w)) (bits_in (alignment n ∷ [])) ∙ rw (align_length n)

  pub whole_bytes : length (element_bits w) ≡ 8 * size_of w
  whole_bytes = omega (arith, bits_length)

  pub few_is : size_of w ≤ 8191 → sum_of total w.lengths ≤ 8191
  few_is h = omega (arith, whole_is, content_length, bits_length)

  pub other_few : size_of w ≤ 8191 → length w.other ≤ 8191
  other_few h =
      other_bound (eqb w.config.other 1) w.config.bits f.enough (omega (arith, content_length, bits_length))

  pub some_is : 1 ≤ size_of w
  some_is = omega (arith, front_some w.send w.config, content_length, bits_length)

-- ---- it reads back

-- the alignment stands behind all else
behind_one : (p : Piece) (ss os : List Piece)
    → (p ∷ (ss ++ os)) ++ (alignment (length (bits_in (p ∷ (ss ++ os)))) ∷ [])
    ≡ p ∷ last_pieces ss os (0 + length p.bits)
unfolding bits_in
behind_one p ss os =
    let n : length (p.bits ++ bits_in (ss ++ os))
    ≡ 0 + length p.bits + length (bits_in ss) + length (bits_in os) =
    simp (bits_append ss os, length-append, length-append) (omega arith) in
    rw (n, append_assoc ss os)

behind_two : (p q : Piece) (ss os : List Piece)
    → (p ∷ q ∷ (ss ++ os)) ++ (alignment (length (bits_in (p ∷ q ∷ (ss ++ os)))) ∷ [])
    ≡ p ∷ q ∷ last_pieces ss os (0 + length p.bits + length q.bits)
unfolding bits_in
behind_two p q ss os =
    let n : length (p.bits ++ (q.bits ++ bits_in (ss ++ os)))
    ≡ 0 + length p.bits + length q.bits + length (bits_in ss) + length (bits_in os) =
    simp (bits_append ss os, length-append, length-append, length-append) (omega arith) in
    rw (n, append_assoc ss os)

pub not_sent : {X : Type 0} → (false ≡ true) ⊎ X → X
not_sent (inl e) = let z : bit false ≡ bit true = ap bit e in absurd (omega arith)
not_sent (inr x) = x

module _ (r : Record) (ns payload other : List ℕ) (types : Typed r) (valid : valid_of r ≡ true) where
  abbrev sent_with : Bool → Sent
  sent_with b = record { config = r; send = b; lengths = ns; payload = payload; other = other }

  -- with the configuration sent, or the same held
  spelt : (b : Bool) (f : Fits (sent_with b)) → size_of (sent_with b) ≤ 8191 → (held : Held)
      → (b ≡ true) ⊎ (held ≡ Some r)
      → Spelt 0 (audio_mux_element held) (pieces (sent_with b)) (record { sent = b; config = r })
  spelt true f m held h =
      let w = sent_with true in
      rw (behind_two (piece fields kind_u 0 (bits_of 1 0)) (piece fields kind_c 0 (mux_bits r)) (slots_in w f)
      (other_pieces r other))
      (sent_trip r ns payload other f.slots (few_is w f m) (omega (arith, whole_is w f)) (enough_is w f) held
      (λ at. record_reads_back r at types.0 types.1 types.2 types.3 valid))
  spelt false f m held h =
      let w = sent_with false in
      let e : held ≡ Some r = not_sent h in
      let u : usable held ≡ true = rw e valid in
      rw (behind_one (piece fields kind_u 0 (bits_of 1 1)) (slots_in w f) (other_pieces r other))
      (held_trip r ns payload other f.slots (few_is w f m) (omega (arith, whole_is w f)) (enough_is w f) held u
      (ap config_held e))

-- ---- the payload and other data stand in it

-- of the pieces that are not slots, only other data keeps any
module _ (w : Sent) (f : Fits w) where
  config_kept : (kind : ℕ) → eqb kind_c kind ≡ false → (b : Bool) → kept_bits kind (config_pieces b w.config) ≡ []
  unfolding kept_bits
  config_kept kind e true = rw e
  config_kept kind e false = refl

  config_widths : (b : Bool) → kept_widths kind_p (config_pieces b w.config) ≡ []
  unfolding kept_widths
  config_widths true = refl
  config_widths false = refl

  other_kept : (kind : ℕ) → eqb kind_o kind ≡ false → (b : Bool) (x : List Bool)
      → kept_bits kind (cond b (piece (passed closed) kind_o 0 x ∷ []) []) ≡ []
  unfolding kept_bits
  other_kept kind e true x = rw e
  other_kept kind e false x = refl

  other_kept_other : (b : Bool) (x : List Bool)
      → kept_bits kind_o (cond b (piece (passed closed) kind_o 0 x ∷ []) []) ≡ cond b x []
  unfolding kept_bits
  other_kept_other true x = append-nil x
  other_kept_other false x = refl

  other_widths : (b : Bool) (x : List Bool) → kept_widths kind_p (cond b (piece (passed closed) kind_o 0 x ∷ []) []) ≡ []
  unfolding kept_widths
  other_widths true x = refl
  other_widths false x = refl

  others_in : List Piece
  others_in = other_pieces w.config w.other

  -- all bits of a kind that flag and configuration have none of
  parts_kept : (kind : ℕ) → eqb kind_u kind ≡ false → eqb kind_c kind ≡ false
      → kept_bits kind (pieces w)
      ≡ (kept_bits kind (slots_in w f) ++ kept_bits kind others_in)
      ++ kept_bits kind (alignment (length (bits_in (content_pieces w))) ∷ [])
  unfolding kept_bits others_in
  parts_kept kind u e =
      rw (
        kept_append kind (config_pieces w.send w.config
            ++ (slots_in w f ++ others_in)) (alignment (length (bits_in (content_pieces w))) ∷ []),
        kept_append kind (config_pieces w.send w.config) (slots_in w f ++ others_in),
        kept_append kind (slots_in w f) others_in,
        config_kept kind e w.send,
        u,
      )

  payloads_kept : kept_bits kind_p (pieces w) ≡ unpack w.payload
  unfolding kept_bits others_in
  payloads_kept =
      let k = slots_kept (streams_of w.config) (w.config.subframes + 1) w.lengths w.payload in
      rw (
        parts_kept kind_p refl refl,
        other_kept kind_p refl (eqb w.config.other 1) (take w.config.bits (unpack w.other)),
        k,
        whole_is w f,
        take-length,
        append-nil,
        append-nil,
      )

  others_kept : kept_bits kind_o (pieces w)
      ≡ cond (eqb w.config.other 1) (take w.config.bits (unpack w.other)) []
  unfolding kept_bits others_in
  others_kept =
      let k = slots_none (streams_of w.config) kind_o refl refl (w.config.subframes + 1) w.lengths w.payload in
      rw (
        parts_kept kind_o refl refl,
        other_kept_other (eqb w.config.other 1) (take w.config.bits (unpack w.other)),
        k,
        append-nil,
      )

  zeros_kept : kept_bits kind_a (pieces w) ≡ bits_of ((8 - length (bits_in (content_pieces w)) % 8) % 8) 0
  unfolding kept_bits others_in
  zeros_kept =
      let k = slots_none (streams_of w.config) kind_a refl refl (w.config.subframes + 1) w.lengths w.payload in
      rw (
        parts_kept kind_a refl refl,
        other_kept kind_a refl (eqb w.config.other 1) (take w.config.bits (unpack w.other)),
        k,
        append-nil,
      )

  widths_are : kept_widths kind_p (pieces w) ≡ widths (length w.lengths) w.lengths
  unfolding kept_widths others_in
  widths_are =
      let k =
      slots_widths (streams_of w.config) (w.config.subframes + 1) w.lengths w.payload
      (omega (arith, whole_is w f)) in
      rw (
        kept_widths_append kind_p (config_pieces w.send w.config
            ++ (slots_in w f ++ others_in)) (alignment (length (bits_in (content_pieces w))) ∷ []),
        kept_widths_append kind_p (config_pieces w.send w.config) (slots_in w f ++ others_in),
        kept_widths_append kind_p (slots_in w f) others_in,
        config_widths w.send,
        other_widths (eqb w.config.other 1) (take w.config.bits (unpack w.other)),
        k,
        append-nil,
        append-nil,
        f.number,
      )

-- ---- and all together

-- no refusal 1 or 2
answer_is : (s : List ℕ) (held : Held) (room : ℕ) → 4368 ≤ room → 1 ≤ length s → length s ≤ 8191
    → answer s held room ≡ read s (audio_mux_element held)
unfolding answer
answer_is s held room r h k =
    let n : length s ≡ 0 → ⊥ = λ e. omega arith in
    rw (le-ltb room 4368 r, ne_eqb (length s) 0 n, le-ltb 8191 (length s) k)

pub reads_back : (w : Sent) → Typed w.config → valid_of w.config ≡ true → Fits w → size_of w ≤ 8191
    → (held : Held) → (w.send ≡ true) ⊎ (held ≡ Some w.config) → (room : ℕ)
    → 4368 ≤ room
    → ReadsBack w (pack (size_of w) (element_bits w)) held room
reads_back w types valid f m held h room r =
    let n = size_of w in
    let s = pack n (element_bits w) in
    let l : length s ≡ n = length-pack n (element_bits w) in
    let p = spelt w.config w.lengths w.payload w.other types valid w.send f m held h in
    let a =
    packed_reads (audio_mux_element held) (element_bits w) (record { sent = w.send; config = w.config })
    (items_at 0 (pieces w)) n p.reads (whole_bytes w f) in
    let u : unpack s ≡ element_bits w = unpack-pack n (element_bits w) (whole_bytes w f) in
    record {
      items = items_at 0 (pieces w);
      count = count_of (read s (audio_mux_element held));
      accepts =
          answer_is s held room r (omega (arith, l, some_is w f)) (omega (arith, l))
          ∙ accepted_is (read s (audio_mux_element held)) _ _ a;
      shows = record {
        slots = widths_kept kind_p (pieces w) 0 ∙ widths_are w f;
        payloads = contents_kept kind_p s (pieces w) [] u ∙ payloads_kept w f;
        others = contents_kept kind_o s (pieces w) [] u ∙ others_kept w f;
        zeros = ap (number 0) (contents_kept kind_a s (pieces w) [] u ∙ zeros_kept w f) ∙ no_number _;
      };
    }
