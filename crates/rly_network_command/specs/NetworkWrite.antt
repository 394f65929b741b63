-- What `rly network write` and `rly network draw` do.
use Rattle.std.specs.Prelude.{◌≡◌, ◌⊎◌, ℕ, Bool, true, List, [], ◌∷◌, ◌++◌, MatchBool, codes, if◌then◌else◌, map, Option, Some, None, string_bytes}
use Rattle.std.specs.Global.{Vec}
use Rattle.std.specs.Io.KnownBytes.{Appends}
use Rattle.std.specs.List.{list_all}
use Rattle.rly_network_command.specs.NetworkFiles.{AreStations, IsIdsPath, Wish, TextAt, path_of, wish, wishes}
use Rattle.rly_network_command.specs.declared.network_command_fault.NetworkCommandFault.{NetworkCommandFault}
use Rattle.rly_network_command.specs.declared.network_command_fault.NetworkCommandFault.TheVariants.{Put, Text as TextFailed}
use Rattle.rly_network_file.specs.NetworkText.{HasStations}
use Rattle.rly_network_file.specs.Picture.{HasStationLines}
use Rattle.rly_network_file.specs.declared.station_files.StationFiles.{StationFiles}
use Rattle.rly_network_folder.specs.ShelfCalls.{AllCalls, OnlyLooked, ShelfCall, Looked, is_look}
use Rattle.rly_network_folder.specs.Wanted.{AreAllPut, AreSomePut, AreStationsPut, all_wanted}
use Rattle.rly_network_folder.specs.declared.wanted.Wanted.{Wanted}

-- if the ids aren't there, no plan is
abbrev pub plan_look : (folder : List ℕ) → StationFiles → ShelfCall
plan_look folder station = Looked (path_of folder station (codes "plan.toml")) None

abbrev pub plan_looks : Option (List ℕ) → (folder : List ℕ) → List StationFiles → List ShelfCall
plan_looks (Some ids) folder stations = []
plan_looks None folder stations = map (plan_look folder) stations

-- The files of a network file's stations, and where the text of its ids belongs, by what was looked for: the network, the files of
-- passes, the ids, and plans.
pub record IsNetworkRead (file folder path ids_text : List ℕ) (stations : List StationFiles) (calls : List ShelfCall) : Type 0 where
  pub text : List ℕ
  pub before : Option (List ℕ)
  pub passes : List ShelfCall
  pub only : list_all is_look passes ≡ true
  pub are : AreStations text before ids_text stations
  pub beside : IsIdsPath file path
  pub looked : calls ≡ (Looked file (Some text) ∷ passes) ++ (Looked path before ∷ plan_looks before folder stations)

-- what the stations of a network file are to have
pub record AreWished (file folder : List ℕ) (stations : List StationFiles) (ids : List Wish) (wanted : List (List Wish))
    (calls : List ShelfCall) : Type 0 where
  pub path : List ℕ
  pub ids_text : List ℕ
  pub read : IsNetworkRead file folder path ids_text stations calls
  pub kept : ids ≡ TextAt path ids_text ∷ []
  pub each : wanted ≡ map (wishes folder stations) stations

-- The files of a network's stations were put, the ids first, after all that is read was looked for.
pub record HasWritten (file folder : List ℕ) (stations : List StationFiles) (new : List Bool) (calls : List ShelfCall) : Type 0 where
  pub ids : List Wanted
  pub wanted : List (Vec Wanted)
  pub ids_new : Bool
  pub looks : List ShelfCall
  pub ids_calls : List ShelfCall
  pub own_calls : List ShelfCall
  pub wished : AreWished file folder stations (map wish ids) (map (λ w. map wish w.items) wanted) looks
  pub ids_put : AreAllPut ids ids_new ids_calls
  pub put : AreStationsPut wanted new own_calls
  pub all : calls ≡ looks ++ (ids_calls ++ own_calls)

-- A put failed: of what the stations are to have, the ids first, the files before it were put.
pub record HasBegun (file folder : List ℕ) (calls : List ShelfCall) : Type 0 where
  pub stations : List StationFiles
  pub ids : List Wanted
  pub wanted : List (Vec Wanted)
  pub looks : List ShelfCall
  pub puts : List ShelfCall
  pub wished : AreWished file folder stations (map wish ids) (map (λ w. map wish w.items) wanted) looks
  pub some : AreSomePut (ids ++ all_wanted wanted) puts
  pub all : calls ≡ looks ++ puts

-- Only where a file couldn't be put or memory was refused may something be written.
abbrev pub MayHaveBegun : (file folder : List ℕ) → Option (List ShelfCall) → Option (List ShelfCall) → Type 0
MayHaveBegun file folder old new = OnlyLooked old new ⊎ ((calls : List ShelfCall) × HasBegun file folder calls × AllCalls old new calls)

abbrev pub IsTold : (file folder : List ℕ) → NetworkCommandFault → Option (List ShelfCall) → Option (List ShelfCall) → Type 0
IsTold file folder (Put fault) old new = MayHaveBegun file folder old new
IsTold file folder (TextFailed fault) old new = MayHaveBegun file folder old new
IsTold file folder _ old new = OnlyLooked old new

-- a fault of a put, or of memory
abbrev pub IsOfPut : NetworkCommandFault → Type 0
IsOfPut fault = (file folder : List ℕ) (old new : Option (List ShelfCall)) → MayHaveBegun file folder old new → IsTold file folder fault old new

-- the names of the stations that got something new, a line for each
abbrev pub changed_line : StationFiles → Bool → List ℕ
changed_line station new = if new then string_bytes station.name ++ 10 ∷ [] else []

abbrev pub changed_lines : List StationFiles → List Bool → List ℕ
changed_lines [] news = []
changed_lines (station ∷ stations) [] = []
changed_lines (station ∷ stations) (new ∷ news) = changed_line station new ++ changed_lines stations news

-- these, if they were asked for, and otherwise nothing
abbrev pub HasPrintedNames : (changed : Bool) → List StationFiles → List Bool → Option (List ℕ) → Option (List ℕ) → Type 0
HasPrintedNames changed stations news old new = MatchBool changed (Appends old new (changed_lines stations news)) (new ≡ old)

-- `rly network write`: all of that
abbrev pub HasWrittenNetwork : (file folder : List ℕ) → (changed : Bool) → Option (List ℕ) → Option (List ℕ) → Type 0
HasWrittenNetwork file folder changed old new = (stations : List StationFiles) × (news : List Bool) × (calls : List ShelfCall)
    × HasWritten file folder stations news calls × HasPrintedNames changed stations news old new

-- a picture of the stations of a file was printed, whose files of passes were looked for
pub record HasDrawn (file : List ℕ) (old new : Option (List ℕ)) (calls : List ShelfCall) : Type 0 where
  pub text : List ℕ
  pub numbers : List ℕ
  pub picture : List ℕ
  pub passes : List ShelfCall
  pub all : HasStations text numbers
  pub drawn : HasStationLines numbers picture
  pub printed : Appends old new picture
  pub only : list_all is_look passes ≡ true
  pub looked : calls ≡ Looked file (Some text) ∷ passes

-- `rly network draw`
abbrev pub HasDrawnNetwork : (file : List ℕ) → Option (List ℕ) → Option (List ℕ) → Type 0
HasDrawnNetwork file old new = (calls : List ShelfCall) × HasDrawn file old new calls
