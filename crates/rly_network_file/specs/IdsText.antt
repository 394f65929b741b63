-- The ids that a text holds (docs/NETWORK.md, "Ids").
use Rattle.std.specs.Prelude.{ℕ, List, [], codes, Option, Some, None, option_and_then}
use Rattle.toml.specs.Data.{Data, Members, as_table, get_member}
use Rattle.toml.specs.Parse.{parse_document}
use Rattle.rly_network_file.specs.Ids.{Neighbours}
use Rattle.rly_network_file.specs.NetworkText.{number_in, station_in}
use Rattle.rly_plan_syntax.specs.Draft.{items_at}

infixl 10 ◌>>=◌
abbrev ◌>>=◌ : {A B : Type 0} → Option A → (A → Option B) → Option B
o >>= f = option_and_then f o

-- an array of stations' numbers
abbrev pub row_at : List ℕ → Members → Option (List ℕ)
row_at key ms = items_at station_in (get_member key ms)

abbrev pub neighbours_at : Members → Option Neighbours
neighbours_at ms = do
  number ← number_in ms
  peers ← row_at (codes "peer") ms
  hops ← row_at (codes "hop") ms
  Some (record { number = number; peers = peers; hops = hops })

abbrev pub neighbours_of : Data → Option Neighbours
neighbours_of value = as_table value >>= neighbours_at

-- `station` (optional)
abbrev pub stations_at : Option Data → Option (List Neighbours)
stations_at None = Some []
stations_at (Some value) = items_at neighbours_of (Some value)

abbrev pub ids_in : Members → Option (List Neighbours)
ids_in ms = stations_at (get_member (codes "station") ms)

abbrev pub ids_of_text : (text : List ℕ) → Option (List Neighbours)
ids_of_text text = parse_document text >>= ids_in
