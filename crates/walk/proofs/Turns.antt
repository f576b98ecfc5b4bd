-- One turn of what loops: what is left of it behind i turns.
use Rattle.std.proofs.Common.{◌≡◌, refl, sym, ℕ, zero, suc, ◌+◌, ◌-◌, ◌*◌, ◌≤◌, ◌<◌, List, [], ◌∷◌, ◌++◌, length, get_or, set, take, drop, replicate, Option, None, eqb, arith, drop-cons, add-one}
use Rattle.std.proofs.Math.ListN.{drop_of_length-le, length-set}
use Rattle.kernel.specs.declared.Window.TheVariants.{Open}
use Rattle.kernel.specs.Reading.{Reading, give, field, choose, ◌>>=◌}
use Rattle.kernel.specs.Element.{closed, Element, done, follow}
use Rattle.kernel.proofs.Steps.{steps as reading_steps, fields}
use Rattle.kernel.proofs.Lists.{take_more, zeros_more}
use Rattle.element.specs.Mux.{kind_p, pass_over, slot_from, mux_slot_length_bytes, payload_length_info, payload_mux}
use Rattle.element.specs.Mux.{subframe, subframes}
use Rattle.walk.specs.Plan.{slot_by, slots_by}
use Rattle.walk.proofs.Steps.{steps}

-- ---- length bytes

module _ (i v : ℕ) where
  unfoldable pub slot_left : Reading ℕ
  slot_left = slot_from (8192 - i) v

  pub slot_end : 8192 ≤ i → slot_left ≡ give v
  unfolding slot_left slot_from
  slot_end h = let k : 8192 - i ≡ 0 = omega arith in rw k

  pub slot_turn : i < 8192 → slot_left
      ≡ (field Open 8 >>= λ b. choose (eqb b 255) (slot_from (8192 - (i + 1)) (v + 255)) (give (v + b)))
  unfolding slot_left slot_from
  slot_turn h = let k : 8192 - i ≡ suc (8192 - (i + 1)) = omega arith in rw k

pub slot_start : (i : ℕ) → i ≡ 0 → slot_left i 0 ≡ mux_slot_length_bytes
unfolding slot_left mux_slot_length_bytes
slot_start i h = let k : 8192 - i ≡ 8192 = omega arith in rw k

pub slot_next : (i v : ℕ) → slot_from (8192 - (i + 1)) v ≡ slot_left (i + 1) v
unfolding slot_left
slot_next i v = refl

pub ruleset byte_by_byte = (fields, slot_start, slot_turn, slot_next, slot_end)

-- ---- the lengths of a subframe, of which those that are ws were read

module _ (ws : List ℕ) (slots : List (Option ℕ)) (i : ℕ) where
  unfoldable pub lengths_left : Reading (List ℕ)
  lengths_left = payload_length_info (take i ws) (slots_by (drop i slots))

  pub lengths_start : i ≡ 0 → lengths_left ≡ payload_length_info [] (slots_by slots)
  unfolding lengths_left
  lengths_start h = rw h

  pub lengths_end : length slots ≤ i → lengths_left ≡ give (take i ws)
  unfolding lengths_left payload_length_info
  lengths_end h = rw (drop_of_length-le slots h)

pub lengths_turn : (ws : List ℕ) (slots : List (Option ℕ)) (i : ℕ) → i < length slots → i < length ws
    → lengths_left ws slots i ≡ (slot_by (get_or slots i None) >>= λ w. lengths_left (set ws i w) slots (i + 1))
unfolding lengths_left payload_length_info
lengths_turn ws slots i h g =
    let q : drop i slots ≡ get_or slots i None ∷ drop (i + 1) slots = rw (drop-cons slots i None h, add-one i) in
    rw q
    (λ j. slot_by (get_or slots i None) >>= λ w. payload_length_info (sym (take_more ws i w g) j) (slots_by (drop (i + 1) slots)))

-- zeros stand behind one width more
pub zeros_behind : (ws : List ℕ) (i w : ℕ) → drop i ws ≡ replicate (16 - i) 0
    → drop (i + 1) (set ws i w) ≡ replicate (16 - (i + 1)) 0
zeros_behind ws i w h = zeros_more 16 ws i w h

pub ruleset slot_by_slot = (reading_steps, length-set, lengths_start, lengths_turn, lengths_end, zeros_behind)

-- ---- payloads

module _ (i : ℕ) (ws : List ℕ) where
  unfoldable pub payloads_left : Element (Unit {0})
  payloads_left = payload_mux i (drop i ws)

  pub payloads_start : i ≡ 0 → payloads_left ≡ payload_mux 0 ws
  unfolding payloads_left
  payloads_start h = rw h

  pub payloads_end : length ws ≤ i → payloads_left ≡ done tt
  unfolding payloads_left payload_mux
  payloads_end h = rw (drop_of_length-le ws h)

pub payloads_turn : (i : ℕ) (ws : List ℕ) → i < length ws
    → payloads_left i ws ≡ follow (pass_over closed kind_p i (get_or ws i 0)) (λ _. payloads_left (i + 1) ws)
unfolding payloads_left payload_mux follow
payloads_turn i ws h = rw (drop-cons ws i 0 h, add-one i) refl

pub ruleset payload_by_payload = (steps, payloads_start, payloads_turn, payloads_end)

-- ---- subframes

module _ (n i : ℕ) (slots : List (Reading ℕ)) where
  unfoldable pub subframes_left : Element (Unit {0})
  subframes_left = subframes (n - i) slots

  pub subframes_start : i ≡ 0 → subframes_left ≡ subframes n slots
  unfolding subframes_left
  subframes_start h = let k : n - i ≡ n = omega arith in rw k

  pub subframes_end : n ≤ i → subframes_left ≡ done tt
  unfolding subframes_left subframes
  subframes_end h = let k : n - i ≡ 0 = omega arith in rw k

pub subframes_turn : (n i : ℕ) (slots : List (Reading ℕ)) → i < n
    → subframes_left n i slots ≡ follow (subframe slots) (λ _. subframes_left n (i + 1) slots)
unfolding subframes_left subframes
subframes_turn n i slots h = let k : n - i ≡ suc (n - (i + 1)) = omega arith in rw k

pub ruleset subframe_by_subframe = (steps, subframes_start, subframes_turn, subframes_end)
