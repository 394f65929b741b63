-- The keys and the folders of a plan's links, and their paths (docs/COMMANDS.md).
use Rattle.std.specs.Prelude.{◌≡◌, ℕ, ◌==◌, if◌then◌else◌, List, [], map, bit_and, string_bytes, unwrap_or}
use Rattle.std.specs.Prelude.{Option, Some, None, option_and_then, Result, Ok, Err}
use Rattle.std.specs.Option.{option_map}
use Rattle.std.specs.Path.{path_join, path_parent}
use Rattle.rly_station.specs.Workers.{neighbour_of, workers_of}
use Rattle.rly_station.specs.declared.key_fault.KeyWord.{KeyWord}
use Rattle.rly_station.specs.declared.key_fault.KeyWord.TheVariants.{Form, Shared}
use Rattle.rly_station.specs.declared.plan_keys.KeyedWorker.{KeyedWorker}
use Rattle.rly_plan.specs.ContactPlan.{ContactPlan}
use Rattle.rly_plan.specs.FarEnds.{folder_at, key_at}
use Rattle.rly_plan.specs.declared.far_end.FolderEnd.{FolderEnd}
use Rattle.rly_link_auth.specs.Keys.{Keys, keys_in}
use Rattle.rly_link.specs.declared.turn.Worker.{Worker}

-- the key file of the link with a worker's neighbour, if the plan names one
abbrev pub key_file_of : ContactPlan → Worker → Option (List ℕ)
key_file_of plan worker = option_and_then (λ n. key_at n.far) (neighbour_of plan worker)

-- a worker, and the file of its link's key
abbrev pub worker_and_file : KeyedWorker → Worker × Option (List ℕ)
worker_and_file link = (link.worker, option_map (λ k. k.file) link.key)

-- each worker of a plan, in order, with the key in the file that the plan names for its link: none if it names none
abbrev pub AreKeysOf : ContactPlan → List KeyedWorker → Type 0
AreKeysOf plan links = map worker_and_file links ≡ map (λ w. (w, key_file_of plan w)) (workers_of plan)

-- the path of a file that a plan names: relative to the folder of the plan's own file, unless it is absolute
abbrev pub path_beside : List ℕ → List ℕ → List ℕ
path_beside plan named = path_join (unwrap_or (path_parent plan) []) named

-- the folder that plays a worker's neighbour, if the plan names one, and its path beside the plan's own file
abbrev pub folder_of : ContactPlan → Worker → Option FolderEnd
folder_of plan worker = option_and_then (λ n. folder_at n.far) (neighbour_of plan worker)

abbrev pub folder_path_of : List ℕ → ContactPlan → Worker → Option (List ℕ)
folder_path_of file plan worker = option_map (λ f. path_beside file f.path) (folder_of plan worker)

-- a worker, and the path of the folder of its link
abbrev pub worker_and_folder : KeyedWorker → Worker × Option (List ℕ)
worker_and_folder link = (link.worker, option_map string_bytes link.folder)

-- each worker of the plan in a file, in order, with the path of the folder that the plan names for its link: none if it
-- names none
abbrev pub AreFoldersOf : List ℕ → ContactPlan → List KeyedWorker → Type 0
AreFoldersOf file plan links =
    map worker_and_folder links ≡ map (λ w. (w, folder_path_of file plan w)) (workers_of plan)

-- the permission bits of others than a file's owner
abbrev pub for_others : ℕ → ℕ
for_others mode = bit_and mode 0o077

-- the keys in a text, if it has any
abbrev pub keys_or_form : Option Keys → Result Keys KeyWord
keys_or_form None = Err Form
keys_or_form (Some keys) = Ok keys

-- the keys in a file with these permissions and this text: refused if others have any permission
abbrev pub key_in : ℕ → List ℕ → Result Keys KeyWord
key_in mode text = if for_others mode == 0 then keys_or_form (keys_in text) else Err (Shared (for_others mode))
