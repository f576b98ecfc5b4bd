-- The plan of a valid configuration tells of what stands behind it.
use Rattle.std.proofs.Common.{◌≡◌, refl, ap, sym, ◌∙◌, ℕ, suc, ◌+◌, ◌*◌, ◌-◌, ◌≤◌, ◌<◌, Bool, true, false, cond, eqb, List, [], ◌∷◌, ◌++◌, map, length, get_or, set, take, replicate, Option, Some, None, is_some, unwrap_or, arith, append_assoc, add-one}
use Rattle.std.proofs.Math.ListN.{length-map, length-take, get_or-eq_default, length-append, length-replicate}
use Rattle.std.proofs.Math.Seq.{take_at, set-append_seam, take-suc, take-length, get_or-take}
use Rattle.std.proofs.lemmas.List.{map-append}
use native.Mathlib.Decide.{dec_lt}
use Rattle.kernel.specs.Reading.{Reading, give, choose, ◌>>=◌}
use Rattle.kernel.proofs.Tests.{both}
use Rattle.records.specs.declared.Stream.{Stream}
use Rattle.records.specs.declared.Record.{Record}
use Rattle.records.specs.Blank.{no_stream}
use Rattle.records.specs.Table.{streams_in}
use Rattle.records.specs.Valid.{valid_config, valid_fixed, valid_of}
use Rattle.records.proofs.Apart.{FixedOk, of_type_0, of_type_1, fixed_ok, record_ok}
use Rattle.element.specs.Mux.{mux_slot_length_bytes, slot_of, other_data, rest, streams_of, body}
use Rattle.element.specs.Mux.{slots_of as slots_read}
use Rattle.walk.specs.Plan.{slot_by, slots_by, planned, Planned}
use Rattle.reader.specs.Parts.{fixed_bits, fixed_of, Fixable, slots_of, plan_of}

-- ---- the slots of some streams, filled one after the other

-- one more of n cells filled
cell_more : {A B : Type 0} (f : A → B) (xs : List A) (i : ℕ) (d : A) (e : B) (n : ℕ) → i < length xs → i < n
    → set (map f (take i xs) ++ replicate (n - i) e) i (f (get_or xs i d))
    ≡ map f (take (i + 1) xs) ++ replicate (n - (i + 1)) e
cell_more {A} {B} f xs i d e n h k =
    let m = map f (take i xs) in
    let rest = replicate (n - (i + 1)) e in
    let v = f (get_or xs i d) in
    let q : n - i ≡ suc (n - (i + 1)) = omega arith in
    let l : length m ≡ i = length-map (take i xs) f ∙ length-take i xs ∙ omega arith in
    let t : map f (take (i + 1) xs) ≡ m ++ (v ∷ []) =
    ap (map f) (rw add-one (take-suc xs i d h)) ∙ map-append f (take i xs) (get_or xs i d ∷ []) in
    let b : set (m ++ (e ∷ rest)) i v ≡ m ++ (v ∷ rest) =
    ap (λ (j : ℕ). set (m ++ (e ∷ rest)) j v) (sym l) ∙ set-append_seam m e rest v in
    let c : (m ++ (v ∷ [])) ++ rest ≡ m ++ (v ∷ rest) = append_assoc m (v ∷ []) rest in
    ap (λ (j : ℕ). set (m ++ replicate j e) i v) q ∙ b ∙ sym c ∙ ap (λ (z : List B). z ++ rest) (sym t)

module _ (ss : List Stream) (i : ℕ) where
  -- those of the first i
  unfoldable pub filled : List (Option ℕ)
  filled = map fixed_of (take i ss) ++ replicate (16 - i) None

  pub filled_start : i ≡ 0 → filled ≡ replicate 16 None
  unfolding filled
  filled_start h = rw h

  pub filled_end : length ss ≡ i → filled ≡ slots_of ss
  unfolding filled
  filled_end h = rw (← h, take-length ss)

  pub length_filled : i ≤ length ss → i ≤ 16 → length filled ≡ 16
  unfolding filled
  length_filled h k = simp (length-append, length-map, length-replicate, length-take) (omega arith)

  pub filled_more : i < length ss → i < 16 → set filled i (fixed_of (get_or ss i no_stream))
      ≡ map fixed_of (take (i + 1) ss) ++ replicate (16 - (i + 1)) None
  unfolding filled
  filled_more h k = cell_more fixed_of ss i no_stream None 16 h k

pub filled_next : (ss : List Stream) (i : ℕ) → map fixed_of (take (i + 1) ss) ++ replicate (16 - (i + 1)) None ≡ filled ss (i + 1)
unfolding filled
filled_next ss i = refl

pub ruleset filling = (filled_start, filled_more, filled_next, filled_end, length_filled)

-- ---- what a walk needs

slot_same : (kind fixed : ℕ) → slot_by (fixed_bits kind fixed) ≡ slot_of kind fixed
unfolding slot_by slot_of choose
slot_same kind fixed = go (eqb kind 0)
  where
    go : (t : Bool)
        → slot_by (cond t None (Some (8 * (fixed + 20))))
        ≡ choose t (mux_slot_length_bytes >>= λ v. give (8 * v)) (give (8 * (fixed + 20)))
    go true = refl
    go false = refl

slots_same : (ss : List Stream) → slots_by (map fixed_of ss) ≡ slots_read ss
slots_same [] = refl
slots_same (s ∷ ss) = rw (slot_same s.kind s.fixed, slots_same ss)

other_same : (m : ℕ) (slots : List (Reading ℕ)) (t : Bool) (bits : ℕ)
    → rest m slots (is_some (cond {A = Option ℕ} t (Some bits) None)) (unwrap_or (cond {A = Option ℕ} t (Some bits) None) 0)
    ≡ rest m slots t bits
unfolding rest other_data
other_same m slots true bits = refl
other_same m slots false bits = refl

small_fixed : (kind fullness fixed : ℕ) → FixedOk kind fullness fixed → fixed ≤ 511
small_fixed kind fullness fixed (of_type_0 k f s) = omega arith
small_fixed kind fullness fixed (of_type_1 k f s) = s

module _ (r : Record) (h : valid_of r ≡ true) where
  abbrev n : ℕ
  n = streams_in r.layers r.programs 16

  pub plan_fits : Planned (plan_of r)
  plan_fits = ((record_ok r h).count, omega (arith, (record_ok r h).subframes))

  -- no stream is valid behind the last
  pub enough : n ≤ length r.streams
  enough = go (dec_lt (length r.streams) n)
    where
      go : Dec (length r.streams < n) → n ≤ length r.streams
      go (yes l) =
          let v = (record_ok r h).streams (length r.streams) l in
          let e = get_or-eq_default r.streams no_stream {n = length r.streams} (omega arith) in
          let z : false ≡ true = rw e at v in
          cc
      go (no l) = omega arith

  pub many : length (streams_of r) ≡ n
  many = length-take n r.streams ∙ omega (arith, enough)

  pub fixable : Fixable (streams_of r)
  fixable i l =
      let k : i < n = omega (arith, many) in
      let s = get_or r.streams i no_stream in
      let t = valid_config r.version s.config in
      let v = both t (valid_fixed s.kind s.fullness s.fixed) ((record_ok r h).streams i k) in
      let w = small_fixed s.kind s.fullness s.fixed (fixed_ok s.kind s.fullness s.fixed v.1) in
      let e : get_or (streams_of r) i no_stream ≡ s = get_or-take n r.streams i no_stream k in
      rw e w

  pub plan_is : planned (plan_of r) ≡ body r
  plan_is =
      rw (take_at (map fixed_of (streams_of r)) _ n (length-map (streams_of r) fixed_of ∙ many), slots_same (streams_of r))
      (other_same (r.subframes + 1) (slots_read (streams_of r)) (eqb r.other 1) r.bits)
