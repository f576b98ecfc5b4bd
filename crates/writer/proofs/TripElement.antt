-- What is written of an element reads back, part by part.
use mathlib.Core.Path.{◌≡◌, refl, ◌∙◌, subst}
use mathlib.Core.Bool.{Bool, true, false, cond}
use mathlib.Core.List.{List, [], ◌∷◌, ◌++◌, append-nil, append_assoc}
use Prim.Native.Nat.{ℕ, zero, suc, ◌+◌, ◌-◌, ◌*◌, ◌/◌, ◌%◌, ◌≤◌, ◌<◌}
use native.Mathlib.Omega.{arith}
use borrow.Author.Tests.{eqb-true, ne_eqb}
use lib.Dec.{eqb}
use lib.ListN.{length, get_or, take, drop, length-drop}
use lib.Seq.{length-take-le, append_snoc, drop-drop}
use Rattle.kernel.specs.declared.Window.TheVariants.{Open}
use Rattle.kernel.specs.Bits.{bits_of, unpack}
use Rattle.kernel.specs.Reading.{give}
use Rattle.kernel.specs.Element.{done, closed, fields, passed}
use Rattle.kernel.specs.Trip.{Reads}
use Rattle.kernel.proofs.Bits.{length-bits_of}
use Rattle.kernel.proofs.Held.{length-unpack, length_first}
use Rattle.kernel.proofs.Tests.{both, either}
use Rattle.kernel.proofs.Trip.{reads_give, reads_bind, reads_on, reads_last, reads_then, reads_yes, reads_no}
use Rattle.kernel.proofs.Trip.{reads_need, reads_maybe}
use Rattle.records.specs.declared.Stream.{Stream}
use Rattle.records.specs.declared.Record.{Record}
use Rattle.config.specs.Mux.{stream_mux_config, mux_bits}
use Rattle.element.specs.Held.{Held, usable, config_held}
use Rattle.element.specs.Mux.{kind_u, kind_c, kind_l, kind_o, slot_from, mux_slot_length_bytes, slot_of, slots_of}
use Rattle.element.specs.Mux.{payload_length_info, payload_mux, subframe, subframes, other_data, byte_alignment, rest}
use Rattle.element.specs.Mux.{applied, use_same_stream_mux, after_flag, audio_mux_element, streams_of}
use Rattle.writer.specs.Written.{Piece, piece, bits_in, ones_bits, length_bits, slot_bits, lengths_bits, payload_pieces}
use Rattle.writer.specs.Written.{sum_of, subframe_pieces, other_pieces, alignment}
use Rattle.writer.specs.Write.{slot_fits, row_fits, slots_fit}
use Rattle.writer.specs.Claims.{widths}
use Rattle.writer.proofs.Pieces.{Spelt, spelt_done, spelt_part, spelt_over, spelt_follow, spelt_spot}

-- ---- the lengths of a subframe

-- k bytes of 255 and one that is less, where more than k may be read
ones_trip : (k f v r : ℕ) {at : ℕ} → k < f → r < 255
    → Reads Open at (slot_from f v) (ones_bits k ++ bits_of 8 r) (v + 255 * k + r)
unfolding slot_from ones_bits
ones_trip k zero v r h l = absurd (omega arith)
ones_trip zero (suc f) v r h l =
    let e : v + 255 * 0 + r ≡ v + r = omega arith in
    let n : r ≡ 255 → ⊥ = λ q. omega arith in
    reads_last 8 r _ (omega arith) (reads_no _ (ne_eqb r 255 n) (rw e reads_give))
ones_trip (suc k) (suc f) v r {at} h l =
    let e : v + 255 * suc k + r ≡ v + 255 + 255 * k + r = omega arith in
    rw (append_assoc (bits_of 8 255) (ones_bits k) (bits_of 8 r), e)
    (reads_on 8 255 _ (omega arith) (reads_yes _ refl (ones_trip k f (v + 255) r (omega arith) l)))

slot_trip : (s : Stream) (n : ℕ) {at : ℕ} → slot_fits s n ≡ true → n ≤ 8191
    → Reads Open at (slot_of s.kind s.fixed) (slot_bits s.kind n) (8 * n)
unfolding slot_of mux_slot_length_bytes length_bits
slot_trip s n h l =
    reads_maybe (eqb s.kind 0) (8 * (s.fixed + 20))
    (λ e. let q : 8 * (0 + 255 * (n / 255) + n % 255) ≡ 8 * n = omega arith in
    reads_then (λ v. give (8 * v)) (ones_trip (n / 255) 8192 0 (n % 255) (omega arith) (omega arith)) (rw q reads_give))
    (λ e. let q : n ≡ s.fixed + 20 = eqb-true n (s.fixed + 20)
    (either (eqb s.kind 0) (eqb n (s.fixed + 20)) h e) in rw q)

lengths_trip : (ss : List Stream) (ws ns : List ℕ) {at : ℕ} → row_fits ss ns ≡ true → sum_of (length ss) ns ≤ 8191
    → Reads Open at (payload_length_info ws (slots_of ss)) (lengths_bits ss ns) (ws ++ widths (length ss) ns)
unfolding payload_length_info lengths_bits row_fits sum_of widths
lengths_trip [] ws ns h l = rw (append-nil ws) reads_give
lengths_trip (s ∷ ss) ws ns h l =
    let b = both (slot_fits s (get_or ns 0 0)) (row_fits ss (drop 1 ns)) h in
    let n = get_or ns 0 0 in
    reads_bind (λ w. payload_length_info (ws ++ (w ∷ [])) (slots_of ss)) (slot_trip s n b.0 (omega arith))
    (rw (← append_snoc ws (8 * n) (widths (length ss) (drop 1 ns)))
    (lengths_trip ss (ws ++ (8 * n ∷ [])) (drop 1 ns) b.1 (omega arith)))

-- ---- payloads, subframes

payload_trip : (k i : ℕ) (ns payload : List ℕ) {at : ℕ} → sum_of k ns ≤ length payload
    → Spelt at (payload_mux i (widths k ns)) (payload_pieces i k ns payload) tt
unfolding payload_mux widths payload_pieces sum_of
payload_trip zero i ns payload l = spelt_done
payload_trip (suc k) i ns payload l =
    let n = get_or ns 0 0 in
    spelt_over (unpack (take n payload)) (length_first payload n (omega arith))
    (payload_trip k (i + 1) (drop 1 ns) (drop n payload) (omega (arith, length-drop n payload)))

-- a sum in two parts
pub sum_split : (a b : ℕ) (ns : List ℕ) → sum_of (a + b) ns ≡ sum_of a ns + sum_of b (drop a ns)
unfolding sum_of
sum_split zero b ns = let e : 0 + b ≡ b = omega arith in rw e (omega arith)
sum_split (suc a) b ns =
    let e : suc a + b ≡ suc (a + b) = omega arith in
    let d : drop a (drop 1 ns) ≡ drop (suc a) ns = drop-drop a 1 ns ∙ (let q : 1 + a ≡ suc a = omega arith in rw q) in
    rw (e, sum_split a b (drop 1 ns), d) (omega arith)

subframe_trip : (ss : List Stream) (ns payload : List ℕ) {at : ℕ} → row_fits ss ns ≡ true → sum_of (length ss) ns ≤ 8191
    → sum_of (length ss) ns ≤ length payload
    → Spelt at (subframe (slots_of ss)) (piece fields kind_l 0 (lengths_bits ss ns)
    ∷ payload_pieces 0 (length ss) ns payload) tt
unfolding subframe
subframe_trip ss ns payload h l m =
    spelt_part (λ ws. payload_mux 0 ws) (lengths_trip ss [] ns h l) (payload_trip (length ss) 0 ns payload m)

subframes_trip : (n : ℕ) (ss : List Stream) (ns payload : List ℕ) {at : ℕ} → slots_fit n ss ns ≡ true
    → sum_of (n * length ss) ns ≤ 8191 → sum_of (n * length ss) ns ≤ length payload
    → Spelt at (subframes n (slots_of ss)) (subframe_pieces n ss ns payload) tt
unfolding subframes subframe_pieces slots_fit
subframes_trip zero ss ns payload h l m = spelt_done
subframes_trip (suc n) ss ns payload h l m =
    let k = length ss in
    let b = both (row_fits ss ns) (slots_fit n ss (drop k ns)) h in
    let e : suc n * k ≡ k + n * k = omega arith in
    let q : sum_of (suc n * k) ns ≡ sum_of k ns + sum_of (n * k) (drop k ns) = rw e (sum_split k (n * k) ns) in
    let d : length (drop (sum_of k ns) payload) ≡ length payload - sum_of k ns = length-drop (sum_of k ns) payload in
    spelt_follow (λ _. subframes n (slots_of ss))
    (subframe_trip ss ns payload b.0 (omega (arith, q)) (omega (arith, q)))
    (subframes_trip n ss (drop k ns) (drop (sum_of k ns) payload) b.1 (omega (arith, q)) (omega (arith, q, d)))

-- ---- other data and alignment

other_trip : (b : Bool) (bits : ℕ) (other : List ℕ) {at : ℕ} → (b ≡ true → bits ≤ 8 * length other)
    → Spelt at (other_data b bits) (cond b (piece (passed closed) kind_o 0 (take bits (unpack other)) ∷ []) []) tt
unfolding other_data
other_trip true bits other h =
    spelt_over (take bits (unpack other))
    (length-take-le bits (unpack other) (omega (arith, length-unpack other, h refl))) spelt_done
other_trip false bits other h = spelt_done

align_trip : (at : ℕ) → Spelt at byte_alignment (alignment at ∷ []) tt
unfolding byte_alignment
align_trip at = spelt_spot _ (spelt_over (bits_of ((8 - at % 8) % 8) 0) (length-bits_of ((8 - at % 8) % 8) 0) spelt_done)

-- ---- the element

-- slots and other data, and alignment behind them
abbrev pub last_pieces : List Piece → List Piece → ℕ → List Piece
last_pieces slots others at = slots ++ (others ++ (alignment (at + length (bits_in slots) + length (bits_in others)) ∷ []))

module _ (r : Record) (ns payload other : List ℕ) (slots : slots_fit (r.subframes + 1) (streams_of r) ns ≡ true)
    (few : sum_of ((r.subframes + 1) * length (streams_of r)) ns ≤ 8191)
    (whole : sum_of ((r.subframes + 1) * length (streams_of r)) ns ≤ length payload)
    (enough : eqb r.other 1 ≡ true → r.bits ≤ 8 * length other) where
  abbrev pub last_of : ℕ → List Piece
  last_of at = last_pieces (subframe_pieces (r.subframes + 1) (streams_of r) ns payload) (other_pieces r other) at

  applied_trip : (at : ℕ) (b : Bool)
      → Spelt at (applied (record { sent = b; config = r })) (last_of at) (record { sent = b; config = r })
  unfolding applied rest
  applied_trip at b =
      subst (λ (ps : List Piece). Spelt at (applied (record { sent = b; config = r })) ps
      (record { sent = b; config = r })) (append-nil (last_of at))
      (spelt_follow (λ _. done (record { sent = b; config = r }))
      (spelt_follow _ (subframes_trip (r.subframes + 1) (streams_of r) ns payload slots few whole)
      (spelt_follow _ (other_trip (eqb r.other 1) r.bits other enough) (align_trip _)))
      spelt_done)

  -- by the held configuration
  pub held_trip : (h : Held) → usable h ≡ true → config_held h ≡ r
      → Spelt 0 (audio_mux_element h) (piece fields kind_u 0 (bits_of 1 1) ∷ last_of (0 + length (bits_of 1 1)))
      (record { sent = false; config = r })
  unfolding audio_mux_element use_same_stream_mux after_flag
  held_trip h u e =
      spelt_part _ (reads_last 1 1 _ (omega arith) (reads_need 4 1 u reads_give))
      (rw e (applied_trip (0 + length (bits_of 1 1)) false))

  -- with the configuration sent
  pub sent_trip : (h : Held) → ((at : ℕ) → Reads Open at stream_mux_config (mux_bits r) r)
      → Spelt 0 (audio_mux_element h) (piece fields kind_u 0 (bits_of 1 0) ∷ piece fields kind_c 0 (mux_bits r)
      ∷ last_of (0 + length (bits_of 1 0) + length (mux_bits r)))
      (record { sent = true; config = r })
  unfolding audio_mux_element use_same_stream_mux after_flag
  sent_trip h c =
      spelt_part _ (reads_last 1 0 _ (omega arith) (reads_need 4 1 refl reads_give))
      (spelt_part _ (c (0 + length (bits_of 1 0))) (applied_trip (0 + length (bits_of 1 0) + length (mux_bits r)) true))
