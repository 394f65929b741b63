-- Helpers of private functions: between the bytes of an input and its lines (Lines), and between a line and its
-- words (Grammar).
use Rattle.std.specs.Prelude.{◌≡◌, ℕ, ◌+◌, ◌-◌, ◌≤◌, ◌<◌, ◌^◌, List, [], ◌∷◌, ◌++◌, length, take, slice_range, ◌==◌}
use Rattle.std.specs.Prelude.{Bool, true, false, Option, Some, None, ⊤}
use Rattle.std.specs.List.{list_any}
use Rattle.rly_daemon_lines.specs.Lines.{lines_of, longest_line}

-- the bytes kept of a line: a prefix long enough to find that it is too long
abbrev pub line_front : List ℕ → List ℕ
line_front line = take (longest_line + 1) line

-- the effect of reading a line on the remaining bytes, if they are known: there was none, or the first was consumed
-- and kept
abbrev pub TakesLine : Bool → Option (List ℕ) → Option (List ℕ) → List ℕ → Type 0
TakesLine found None new kept = ⊤
TakesLine found (Some xs) None kept = ⊥
TakesLine false (Some xs) (Some ys) kept = (xs ≡ []) × (ys ≡ [])
TakesLine true (Some xs) (Some ys) kept = (line : List ℕ) × (lines_of xs ≡ line ∷ lines_of ys)
    × (kept ≡ line_front line)

-- a reader of lines: the bytes read ahead, the kept bytes of the last line, and the number of bytes read
pub record ReaderState : Type 0 where
  pub ahead : List ℕ
  pub line : List ℕ
  pub taken : ℕ

-- a reader of lines that has read nothing
abbrev pub nothing_read : ReaderState
nothing_read = record { ahead = []; line = []; taken = 0 }

-- the state of a chunk, its unread part, the line and the count of bytes read
abbrev pub reading_of : List ℕ → ℕ → ℕ → List ℕ → ℕ → ReaderState
reading_of chunk at end line total =
    record { ahead = slice_range chunk at end; line = line; taken = total - (end - at) }

-- the unread part lies in the chunk, the line has its room, and the count doesn't overflow
pub record IsReading (chunk at end line room total : ℕ) : Type 0 where
  pub front : at ≤ end
  pub within : end ≤ chunk
  pub chunked : 0 < chunk
  pub short : line ≤ longest_line + 1
  pub roomy : longest_line + 1 ≤ room
  pub counted : end - at ≤ total
  pub bounded : total < 2 ^ 64 - 1

-- whether there is a newline
abbrev pub has_newline : List ℕ → Bool
has_newline bytes = list_any (λ b. b == 10) bytes

-- a piece of a line is consumed from the bytes read ahead: up to the newline, or all there is
abbrev pub TakesPiece : Bool → ReaderState → ReaderState → Type 0
TakesPiece true old new = (piece : List ℕ) × (has_newline piece ≡ false) × (old.ahead ≡ piece ++ 10 ∷ new.ahead)
    × (new.line ≡ line_front (old.line ++ piece)) × (old.taken < new.taken) × (new.taken < 2 ^ 64)
TakesPiece false old new = (has_newline old.ahead ≡ false) × (new.ahead ≡ [])
    × (new.line ≡ line_front (old.line ++ old.ahead))
    × (new.taken ≡ old.taken + length old.ahead) × (new.taken < 2 ^ 64)

-- reading ahead returns bytes or finds the end, and consumes nothing
abbrev pub Fills : Bool → ReaderState → ReaderState → Type 0
Fills true old new = (new.line ≡ old.line) × (new.taken ≡ old.taken) × (0 < length new.ahead)
Fills false old new = (new.line ≡ old.line) × (new.taken ≡ old.taken) × (new.ahead ≡ [])

-- there are two words or more
abbrev pub HasTwo : List (List ℕ) → Type 0
HasTwo words = (first second : List ℕ) × (rest : List (List ℕ)) × (words ≡ first ∷ second ∷ rest)
