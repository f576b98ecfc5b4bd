-- Hunts worked out by hand, and the claim that they come out so. proofs/Worked.antt has the theorem.
use Rattle.std.specs.Prelude.{◌≡◌, Result, Err, List, [], ◌∷◌, ℕ, replicate}
use Rattle.kernel.specs.Answer.{unread}
use Rattle.kernel.specs.declared.Refusal.{Refusal}
use Rattle.sync.specs.declared.Hunted.{Hunted}
use Rattle.sync.specs.Sync.{found, hunt_of}

abbrev none : Result Hunted Refusal
none = Err (unread 20)

-- two frames, of one byte and of two
abbrev two : List ℕ
two = 0x56 ∷ 0xE0 ∷ 0x01 ∷ 0xAA ∷ 0x56 ∷ 0xE0 ∷ 0x02 ∷ 0xBB ∷ 0xCC ∷ []

-- each line a capture, a start, and what is found
abbrev pub WorkedHunts : Type 0
WorkedHunts =
    -- a frame at the very end
    (hunt_of (0x56 ∷ 0xE0 ∷ 0x02 ∷ 0x80 ∷ 0x00 ∷ []) 0 ≡ found 0 2)
    -- behind it no mark, one byte of a mark, a mark of two ones, and a mark
    × (hunt_of (0x56 ∷ 0xE0 ∷ 0x02 ∷ 0x80 ∷ 0x00 ∷ 0x00 ∷ 0x00 ∷ []) 0 ≡ none)
    × (hunt_of (0x56 ∷ 0xE0 ∷ 0x02 ∷ 0x80 ∷ 0x00 ∷ 0x56 ∷ []) 0 ≡ none)
    × (hunt_of (0x56 ∷ 0xE0 ∷ 0x02 ∷ 0x80 ∷ 0x00 ∷ 0x56 ∷ 0xC0 ∷ []) 0 ≡ none)
    × (hunt_of (0x56 ∷ 0xE0 ∷ 0x02 ∷ 0x80 ∷ 0x00 ∷ 0x56 ∷ 0xE0 ∷ []) 0 ≡ found 0 2)
    -- in front of it a mark of two ones, and another first byte
    × (hunt_of (0x56 ∷ 0xC0 ∷ 0x02 ∷ 0x80 ∷ 0x00 ∷ []) 0 ≡ none)
    × (hunt_of (0x57 ∷ 0xE0 ∷ 0x02 ∷ 0x80 ∷ 0x00 ∷ []) 0 ≡ none)
    -- no byte of element, at the end and before a frame
    × (hunt_of (0x56 ∷ 0xE0 ∷ 0x00 ∷ []) 0 ≡ none)
    × (hunt_of (0x56 ∷ 0xE0 ∷ 0x00 ∷ 0x56 ∷ 0xE0 ∷ 0x01 ∷ 0xAA ∷ []) 0 ≡ found 3 1)
    -- cut by a byte
    × (hunt_of (0x56 ∷ 0xE0 ∷ 0x02 ∷ 0x80 ∷ []) 0 ≡ none)
    -- behind other bytes, and behind a mark that is none of a frame
    × (hunt_of (0x00 ∷ 0x56 ∷ 0xE0 ∷ 0x02 ∷ 0x80 ∷ 0x00 ∷ []) 0 ≡ found 1 2)
    × (hunt_of (0x56 ∷ 0xE0 ∷ 0x05 ∷ 0x56 ∷ 0xE0 ∷ 0x01 ∷ 0xAA ∷ []) 0 ≡ found 3 1)
    -- of two frames each from its start, the second from inside the first, and none from inside the second or from the
    -- end
    × (hunt_of two 0 ≡ found 0 1)
    × (hunt_of two 4 ≡ found 4 2)
    × (hunt_of two 1 ≡ found 4 2)
    × (hunt_of two 5 ≡ none)
    × (hunt_of two 9 ≡ none)
    -- a length of more than eight bits
    × (hunt_of (0x56 ∷ 0xE1 ∷ 0x02 ∷ replicate 258 0) 0 ≡ found 0 258)
