-- The picture of a network's stations.
use Rattle.std.specs.Prelude.{◌≡◌, ℕ, List, [], ◌∷◌, ◌++◌, codes, length}
use Rattle.std.specs.Fmt.{decimal}

-- the line of a station with this number and name
abbrev pub station_line : (number : ℕ) → (name : List ℕ) → List ℕ
station_line number name =
    codes "    s" ++ (decimal number ++ (codes " [label = \"" ++ (name ++ (codes "\\n" ++ (decimal number ++ codes "\"];\n")))))

abbrev pub station_lines : (numbers : List ℕ) → (names : List (List ℕ)) → List ℕ
station_lines [] names = []
station_lines (number ∷ numbers) [] = []
station_lines (number ∷ numbers) (name ∷ names) = station_line number name ++ station_lines numbers names

-- The picture begins with a line for each station, in the file's order.
pub record HasStationLines (numbers text : List ℕ) : Type 0 where
  pub head : List ℕ
  pub names : List (List ℕ)
  pub rest : List ℕ
  pub each : length names ≡ length numbers
  pub all : text ≡ head ++ (station_lines numbers names ++ rest)
