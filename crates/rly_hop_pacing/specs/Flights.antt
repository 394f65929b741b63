-- The numbers in flight to a hop (docs/ARCHITECTURE.md, "The pace of a hop").
use Rattle.std.specs.Prelude.{ℕ, ◌+◌, ◌-◌, min, max, nat_le, nat_lt, Bool, ◌&&◌, List}
use Rattle.std.specs.List.{range_with_len}
use Rattle.rly_hop_pacing.specs.declared.flight.Flight.{Flight}

-- a number was sent
abbrev pub flight_on_sent : Flight → ℕ → Flight
flight_on_sent f number = record f { reached = max f.reached number; highest = max f.highest number }

-- the flight is sent again from its first number on
abbrev pub set_back : Flight → Flight
set_back f = record f { reached = f.covered }

-- numbers up to last are covered
abbrev pub flight_on_covered : Flight → ℕ → Flight
flight_on_covered f last = record f { covered = last; reached = max f.reached last }

-- a custody covers a number in flight: one that was sent and that no custody has covered
abbrev pub covers : Flight → ℕ → Bool
covers f last = nat_lt f.covered last && nat_le last f.highest

-- how many numbers are in flight, and how many of them were sent since the core was last set back; no window has more
-- than 64
abbrev pub in_flight_count : Flight → ℕ
in_flight_count f = min (f.highest - f.covered) 64

abbrev pub sent_count : Flight → ℕ
sent_count f = min (f.reached - f.covered) 64

-- these numbers, in order
abbrev pub sent_numbers : Flight → List ℕ
sent_numbers f = range_with_len (f.covered + 1) (sent_count f)
