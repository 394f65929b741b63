-- Which texts are network files and no plans, and of which stations.
use Rattle.std.specs.Prelude.{◌≡◌, ◌≢◌, ℕ, ℤ, Bool, false, List, [], codes, if◌then◌else◌, Option, Some, None, is_some, option_and_then}
use Rattle.toml.specs.Data.{Data, Members, as_array, as_integer, as_table, get_member}
use Rattle.toml.specs.Parse.{parse_document}
use Rattle.rly_plan.specs.Numbers.{is_station, number}
use Rattle.rly_plan_syntax.specs.Draft.{items_at}

-- a value that is an array is there
abbrev pub is_array : Option Data → Bool
is_array found = is_some (option_and_then as_array found)

-- the document's `station` is an array: a plan's is a number
abbrev pub is_network : Option Members → Bool
is_network (Some ms) = is_array (get_member (codes "station") ms)
is_network None = false

-- a whole number, if it is a station's
abbrev pub station_from : ℤ → Option ℕ
station_from z = if is_station z then Some (number z) else None

abbrev pub station_in : Data → Option ℕ
station_in value = option_and_then station_from (as_integer value)

-- the number of a station's table
abbrev pub number_in : Members → Option ℕ
number_in ms = option_and_then station_in (get_member (codes "number") ms)

abbrev pub number_of : Data → Option ℕ
number_of value = option_and_then number_in (as_table value)

-- the numbers of a document's stations, in their order
abbrev pub numbers_in : Members → Option (List ℕ)
numbers_in ms = items_at number_of (get_member (codes "station") ms)

-- The text is a network file of the stations of these numbers, at least one.
pub record HasStations (text numbers : List ℕ) : Type 0 where
  pub are : option_and_then numbers_in (parse_document text) ≡ Some numbers
  pub some : numbers ≢ []
