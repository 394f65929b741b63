-- What is read of a network file, and the files of its stations (docs/NETWORK.md).
use Rattle.std.specs.Prelude.{◌≡◌, ◌≢◌, ◌⊎◌, ℕ, Bool, true, List, [], ◌∷◌, ◌++◌, codes, map, Option, Some, None, string_bytes, String}
use Rattle.std.specs.Global.{Global}
use Rattle.std.specs.List.{filter, list_any}
use Rattle.std.specs.Str.{bytes_eq}
use Rattle.rly_network_file.specs.Ids.{Neighbours, are_distinct, keeps}
use Rattle.rly_network_file.specs.IdsText.{ids_of_text}
use Rattle.rly_network_file.specs.NetworkText.{HasStations}
use Rattle.rly_network_file.specs.Written.{IsWritten}
use Rattle.rly_network_file.specs.declared.station_files.StationFiles.{StationFiles}
use Rattle.rly_network_folder.specs.declared.wanted.Wanted.{Wanted}
use Rattle.rly_network_folder.specs.declared.wanted.Wanted.TheVariants.{Key, Text}

-- The path of the ids: `.ids` in the place of `.toml`, or after a path that ends otherwise.
abbrev pub IsStem : (file stem : List ℕ) → Type 0
IsStem file stem = (file ≡ stem ++ codes ".toml") ⊎ ((stem ≡ file) × ((front : List ℕ) → file ≢ front ++ codes ".toml"))

abbrev pub IsIdsPath : (file path : List ℕ) → Type 0
IsIdsPath file path = (stem : List ℕ) × IsStem file stem × (path ≡ stem ++ codes ".ids")

-- the ids that were there: none if their file wasn't
abbrev pub WereIds : Option (List ℕ) → List Neighbours → Type 0
WereIds None before = before ≡ []
WereIds (Some text) before = ids_of_text text ≡ Some before

-- The files of the stations of a network's text, in its order, which disagree on nothing, by ids of which each that was there before
-- keeps its meaning, and the text of these ids.
pub record AreStations (text : List ℕ) (was : Option (List ℕ)) (ids_text : List ℕ) (stations : List StationFiles) : Type 0 where
  pub numbers : List ℕ
  pub before : List Neighbours
  pub ids : List Neighbours
  pub all : HasStations text numbers
  pub were : WereIds was before
  pub kept : keeps before ids ≡ true
  pub distinct : are_distinct ids ≡ true
  pub read : ids_of_text ids_text ≡ Some ids
  pub written : IsWritten numbers ids stations

-- the path of a file in a station's folder
abbrev pub path_of : (folder : List ℕ) → StationFiles → (file : List ℕ) → List ℕ
path_of folder station file = folder ++ (codes "/" ++ (string_bytes station.name ++ (codes "/" ++ file)))

-- A text at a path, or the key that is there, at one of others, or new.
pub data Wish : Type 0 where
  TextAt : (path text : List ℕ) → Wish
  KeyAt : (path : List ℕ) (others : List (List ℕ)) → Wish

abbrev pub wish : Wanted → Wish
wish (Text path text) = TextAt (string_bytes path) (string_bytes text)
wish (Key path others) = KeyAt (string_bytes path) (map string_bytes others.items)

-- A key may be in the folder of each station that names it.
abbrev pub names_key : (key : List ℕ) → StationFiles → Bool
names_key key station = list_any (λ (k : String Global). bytes_eq (string_bytes k) key) station.keys.items

abbrev pub key_paths : (folder : List ℕ) → List StationFiles → (key : List ℕ) → List (List ℕ)
key_paths folder stations key = map (λ s. path_of folder s key) (filter (names_key key) stations)

abbrev pub key_wish : (folder : List ℕ) → List StationFiles → StationFiles → (key : List ℕ) → Wish
key_wish folder stations station key = KeyAt (path_of folder station key) (key_paths folder stations key)

-- a station's files: its plan, the command that makes its device, the settings of its unit, and the keys of its links
abbrev pub wishes : (folder : List ℕ) → List StationFiles → StationFiles → List Wish
wishes folder stations station =
    TextAt (path_of folder station (codes "plan.toml")) (string_bytes station.plan)
    ∷ TextAt (path_of folder station (codes "format")) (codes "rly format device.rly " ++ string_bytes station.format)
    ∷ TextAt (path_of folder station (codes "unit.conf")) (string_bytes station.unit)
    ∷ map (λ (k : String Global). key_wish folder stations station (string_bytes k)) station.keys.items
