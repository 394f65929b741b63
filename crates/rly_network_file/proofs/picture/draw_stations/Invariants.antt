use Rattle.std.proofs.Common.{◌≡◌, ◌++◌, ℕ, List, length, string_bytes, take}
use Rattle.rly_network_file.specs.Picture.{station_lines}
use Rattle.rly_network_file.proofs.picture.draw_stations.Given as goal

-- the lines of the stations so far
abbrev pub invariant-loop-number : goal.invariant-loop-number
invariant-loop-number l = (names : List (List ℕ)) × (length names ≡ length (take l.number-index l.number-items))
    × (string_bytes l.text ≡ string_bytes l.initial.text ++ station_lines (take l.number-index l.number-items) names)
