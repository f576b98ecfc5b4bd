-- What is claimed of the sync layer. proofs/Theorems.antt has the theorem of each.
use Rattle.std.specs.Prelude.{◌≡◌, true, false, Result, Ok, Err, List, [], ◌++◌, ◌⊎◌, ℕ, ◌+◌, ◌≤◌, ◌<◌, length, take, drop}
use Rattle.kernel.specs.Exactly.{Exactly}
use Rattle.kernel.specs.Answer.{unread}
use Rattle.kernel.specs.declared.Refusal.{Refusal}
use Rattle.sync.specs.Sync.{size_at, frame_at, found, hunt_of, element_at, frame_of, framed_of, out_after}
use Rattle.sync.specs.Promises.{FramePromise}

-- a frame stands at p, and none at any place from the start up to there
pub record StandsFirst (s : List ℕ) (start p : ℕ) : Type 0 where
  pub after : start ≤ p
  pub stands : frame_at s p ≡ true
  pub first : (q : ℕ) → start ≤ q → q < p → frame_at s q ≡ false

-- what a hunt finds is the first frame, with its length,
abbrev pub FoundIsFirst : Type 0
FoundIsFirst = (s : List ℕ) (start p n : ℕ) → hunt_of s start ≡ found p n → StandsFirst s start p × (n ≡ size_at s p)

-- the first frame is found,
abbrev pub FirstIsFound : Type 0
FirstIsFound =
    (s : List ℕ) (start p : ℕ) → length s ≤ 65536 → StandsFirst s start p → hunt_of s start ≡ found p (size_at s p)

-- and a refusal is 20, where the capture is too long or no frame stands at or after the start
abbrev pub RefusedIsNone : Type 0
RefusedIsNone = (s : List ℕ) (start : ℕ) (x : Refusal) → hunt_of s start ≡ Err x
    → (x ≡ unread 20) × ((65536 < length s) ⊎ ((q : ℕ) → start ≤ q → frame_at s q ≡ false))

-- the element of a frame that was found is the bytes behind its first three, all inside a capture that is not too long
abbrev pub ElementIsInside : Type 0
ElementIsInside = (s : List ℕ) (start p n : ℕ) → hunt_of s start ≡ found p n
    → (start ≤ p) × (1 ≤ n) × (p + 3 + n ≤ length s) × (length s ≤ 65536) × (element_at s p n ≡ take n (drop (p + 3) s))

-- a frame of 1 to 8,191 bytes of element, and anything behind it
pub record Frame (s : List ℕ) : Type 0 where
  pub element : List ℕ
  pub rest : List ℕ
  pub some : 1 ≤ length element
  pub few : length element ≤ 8191
  pub stands : s ≡ frame_of element ++ rest

-- a hunt from p finds this element there
abbrev pub FoundAt : List ℕ → ℕ → List ℕ → Type 0
FoundAt s p el = (hunt_of s p ≡ found p (length el)) × (element_at s p (length el) ≡ el)

-- so it does over what was written for an element, behind any bytes, at the end of a capture or before another frame
abbrev pub WrittenIsFound : Type 0
WrittenIsFound =
    (before el out : List ℕ) (n : ℕ) (out' more : List ℕ) → FramePromise el out (Ok n) out'
    → (more ≡ []) ⊎ Frame more
    → let s = before ++ (take n out' ++ more) in length s ≤ 65536 → FoundAt s (length before) el

-- every element of 1 to 8,191 bytes is put into a frame where there is room
abbrev pub RightIsFramed : Type 0
RightIsFramed =
    (el : List ℕ) (room : ℕ) → 1 ≤ length el → length el ≤ 8191 → 3 + length el ≤ room
    → framed_of el room ≡ Ok (3 + length el)

-- and every other is refused: by 2 for its length, else by 19 for the room
module _ (el : List ℕ) (room : ℕ) where
  -- refusal m is given
  abbrev pub Gives : ℕ → Type 0
  Gives m = framed_of el room ≡ Err (unread m)

  -- each of the two exactly where 01 says
  pub record RefusedExactly : Type 0 where
    pub for_2 : Exactly (Gives 2) ((length el ≡ 0) ⊎ (8191 < length el))
    pub for_19 : Exactly (Gives 19) ((1 ≤ length el) × (length el ≤ 8191) × (room < 3 + length el))

-- so of every element and room
abbrev pub RefusalsAreExact : Type 0
RefusalsAreExact = (el : List ℕ) (room : ℕ) → RefusedExactly el room

-- what stood behind the frame stays,
abbrev pub BytesBehindStay : Type 0
BytesBehindStay = (el out : List ℕ) (n : ℕ) → framed_of el (length out) ≡ Ok n
    → let out' = out_after el out (framed_of el (length out)) in (length out' ≡ length out) × (drop n out' ≡ drop n out)

-- and a refusal leaves the whole output as it stood
abbrev pub RefusalKeepsOutput : Type 0
RefusalKeepsOutput =
    (el out : List ℕ) (x : Refusal) → framed_of el (length out) ≡ Err x
    → out_after el out (framed_of el (length out)) ≡ out

-- the promise of `frame` allows one answer and one output
abbrev pub FramedOnce : Type 0
FramedOnce = (el out out₁ out₂ : List ℕ) (x y : Result ℕ Refusal)
    → FramePromise el out x out₁ → FramePromise el out y out₂ → (x ≡ y) × (out₁ ≡ out₂)
