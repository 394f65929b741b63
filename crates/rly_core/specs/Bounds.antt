-- A number between two others.
use Rattle.std.specs.Prelude.{ℕ, ◌≤◌}

-- a number from least to greatest
abbrev pub IsIn : ℕ → ℕ → ℕ → Type 0
IsIn least greatest n = (least ≤ n) × (n ≤ greatest)
