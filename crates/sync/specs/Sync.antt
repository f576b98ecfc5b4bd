-- The sync layer. A frame is 11 bits 0x2B7, 13 bits of length, and the element.
use Rattle.std.specs.Prelude.{Bool, cond, ◌&&◌, ◌||◌, Result, Ok, Err, List, [], ◌∷◌, ◌++◌, ℕ, zero, suc, ◌+◌, ◌*◌, ◌-◌, ◌/◌, ◌%◌, eqb, leb, ltb, length, get_or, take, drop}
use Rattle.kernel.specs.Answer.{unread}
use Rattle.kernel.specs.declared.Refusal.{Refusal}
use Rattle.sync.specs.declared.Hunted.{Hunted}

-- two bytes stand at place p and begin with the 11 bits: 0x56, then three ones
abbrev pub marked : List ℕ → ℕ → Bool
marked s p = leb (p + 2) (length s) && (eqb (get_or s p 0) 0x56 && eqb (get_or s (p + 1) 0 / 32) 7)

-- the length L of a frame at p: the low five bits of byte p + 1, then byte p + 2
abbrev pub size_at : List ℕ → ℕ → ℕ
size_at s p = 256 * (get_or s (p + 1) 0 % 32) + get_or s (p + 2) 0

-- where that frame ends
abbrev pub end_at : List ℕ → ℕ → ℕ
end_at s p = p + 3 + size_at s p

-- a frame stands at p: it lies inside the capture, and ends with it or before another mark
abbrev pub frame_at : List ℕ → ℕ → Bool
frame_at s p =
    marked s p && (leb 1 (size_at s p)
    && (leb (end_at s p) (length s) && (eqb (end_at s p) (length s) || marked s (end_at s p))))

-- a frame at p with an element of n bytes
abbrev pub found : ℕ → ℕ → Result Hunted Refusal
found p n = Ok (record { place = p; size = n })

-- the first of k places from p on where a frame stands
unfoldable pub first_of : List ℕ → ℕ → ℕ → Result Hunted Refusal
first_of s p zero = Err (unread 20)
first_of s p (suc k) = cond (frame_at s p) (found p (size_at s p)) (first_of s (p + 1) k)

-- the first place at or after the start where a frame stands
abbrev pub hunt_of : List ℕ → ℕ → Result Hunted Refusal
hunt_of s start = cond (ltb 65536 (length s)) (Err (unread 20)) (first_of s start (length s - start))

-- the element of n bytes of a frame at p, and no byte where the capture does not hold it
abbrev pub element_at : List ℕ → ℕ → ℕ → List ℕ
element_at s p n = cond (leb (p + 3 + n) (length s)) (take n (drop (p + 3) s)) []

-- the frame of an element
abbrev pub frame_of : List ℕ → List ℕ
frame_of el = 0x56 ∷ (224 + length el / 256) ∷ (length el % 256) ∷ el

-- its bytes are laid into an output with so much room, or refused
abbrev pub framed_of : List ℕ → ℕ → Result ℕ Refusal
framed_of el room =
    cond (eqb (length el) 0 || ltb 8191 (length el)) (Err (unread 2))
    (cond (ltb room (3 + length el)) (Err (unread 19)) (Ok (3 + length el)))

-- the output afterwards: the frame and what stood behind it, or as it stood
abbrev pub out_after : List ℕ → List ℕ → Result ℕ Refusal → List ℕ
out_after el out (Ok n) = frame_of el ++ drop n out
out_after el out (Err x) = out
