-- The lines of an input (docs/COMMANDS.md, "Lines").
use Rattle.std.specs.Prelude.{ℕ, List, [], ◌∷◌, ◌==◌, if◌then◌else◌}
use Rattle.std.specs.List.{onto_first}

-- the lines: each ends at its newline, and the last one may lack it unless it is empty
abbrev pub lines_of : List ℕ → List (List ℕ)
lines_of [] = []
lines_of (x ∷ xs) = if x == 10 then [] ∷ lines_of xs else onto_first x (lines_of xs)

-- the longest line that can be a command, in bytes
abbrev pub longest_line : ℕ
longest_line = 20480
