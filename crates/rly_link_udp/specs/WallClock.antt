-- The remaining turns of a worker's clock, and the points at which it is read.
use Rattle.std.specs.Prelude.{ℕ, zero, suc, ◌+◌, ◌-◌, List, [], ◌∷◌, min}
use Rattle.std.specs.Prelude.{Bool, true, false, Option, Some, None}
use Rattle.rly_link.specs.declared.turn.Point.{Point}
use Rattle.rly_link.specs.declared.turn.Point.TheVariants.{Answered, Call, Heard, Start}

-- the remaining turns of this many: None if they are endless, which is 0
abbrev pub turns_left : ℕ → Option ℕ
turns_left zero = None
turns_left (suc n) = Some (suc n)

-- a worker continues at the start of a turn if one is left, and at every other point
abbrev pub goes_on : Point → Option ℕ → Bool
goes_on Start None = true
goes_on Start (Some zero) = false
goes_on Start (Some (suc n)) = true
goes_on Heard left = true
goes_on Call left = true
goes_on Answered left = true

-- the clocks are read after the worker waited for a packet, and after it waited for an answer
abbrev pub is_read_at : Point → Bool
is_read_at Start = false
is_read_at Heard = true
is_read_at Call = false
is_read_at Answered = true

-- the remaining turns after that point
abbrev pub left_at : Point → Option ℕ → Option ℕ
left_at Start None = None
left_at Start (Some n) = Some (n - 1)
left_at Heard left = left
left_at Call left = left
left_at Answered left = left

-- how many of these points are starts
abbrev pub start_count : List Point → ℕ
start_count [] = 0
start_count (Start ∷ points) = suc (start_count points)
start_count (Heard ∷ points) = start_count points
start_count (Call ∷ points) = start_count points
start_count (Answered ∷ points) = start_count points

-- one if a worker continues at a start, and none elsewhere
abbrev pub turn_at : Point → Bool → ℕ
turn_at Start true = 1
turn_at Start false = 0
turn_at Heard on = 0
turn_at Call on = 0
turn_at Answered on = 0

-- the number of turns of a worker at these points, with this many left before them
abbrev pub turns_had : Option ℕ → List Point → ℕ
turns_had left [] = 0
turns_had left (point ∷ points) = turn_at point (goes_on point left) + turns_had (left_at point left) points

-- the number of turns of this many starts: each, if the turns are endless
abbrev pub turns_of : Option ℕ → ℕ → ℕ
turns_of None count = count
turns_of (Some left) count = min left count
