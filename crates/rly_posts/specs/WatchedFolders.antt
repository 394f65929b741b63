-- The folders that a station watches.
use Rattle.std.specs.Prelude.{ℕ, if◌then◌else◌, List, [], ◌∷◌, ◌++◌, Option, Some, None, map, string_bytes}
use Rattle.std.specs.Option.{option_map}
use Rattle.rly_folder_file.specs.FileNames.{sub_folder_name}
use Rattle.rly_folder_file.specs.declared.place.SubFolder.{SubFolder}
use Rattle.rly_folder_file.specs.declared.place.SubFolder.TheVariants.{New, Out}
use Rattle.rly_link.specs.declared.turn.Worker.{Worker}
use Rattle.rly_link.specs.declared.turn.Worker.TheVariants as worker
use Rattle.rly_link_udp.specs.FolderWatch.{unseen}
use Rattle.rly_link_udp.specs.LinkDuties.{folders_of, is_first}
use Rattle.rly_posts.specs.Duties.{StationPost}
use Rattle.rly_station.specs.declared.plan_keys.KeyedWorker.{KeyedWorker}

-- the sub-folder that other programs change: files come into a peer's, and are taken out of a hop's
abbrev pub sub_folder_of : Worker → SubFolder
sub_folder_of (worker.Receiver peer) = New
sub_folder_of (worker.Sender hop) = Out

abbrev pub watched_path : Worker → List ℕ → List ℕ
watched_path w folder = folder ++ 47 ∷ sub_folder_name (sub_folder_of w)

-- of a link, if it is one to a folder
abbrev pub watched_at : Worker → Option (List ℕ) → List (Worker × List ℕ)
watched_at w None = []
watched_at w (Some folder) = (w, watched_path w folder) ∷ []

abbrev pub watched_folder : KeyedWorker → List (Worker × List ℕ)
watched_folder link = watched_at link.worker (option_map string_bytes link.folder)

-- of all links
abbrev pub watched_folders : List KeyedWorker → List (Worker × List ℕ)
watched_folders [] = []
watched_folders (link ∷ links) = watched_folder link ++ watched_folders links

-- the folders that a worker's clock watches, to be looked at first: all, if it is the receiver of the first peer
abbrev pub watched_by : List (Worker × List ℕ) → KeyedWorker → List (Worker × List ℕ × Option ℕ × Option ℕ)
watched_by folders link = if is_first link.worker then map unseen folders else []

-- the folders that the clock of a post watches
abbrev pub watches : {C : Type 0} → StationPost C → List (Worker × List ℕ × Option ℕ × Option ℕ)
watches post = folders_of post.turn
