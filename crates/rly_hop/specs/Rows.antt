-- Tables of rows: the first row that matches decides.
use Rattle.std.specs.Prelude.{Bool, List, [], ◌∷◌, if◌then◌else◌}

-- the value of the first row whose test is met, or else the default
abbrev pub first_row : {A : Type 0} → List (Bool × A) → A → A
first_row [] otherwise = otherwise
first_row (row ∷ rows) otherwise = if row.0 then row.1 else first_row rows otherwise
