-- The result of `rly network check`.
use Rattle.std.specs.Prelude.{◌≡◌, ◌⊎◌, ◌==◌, ℕ, Bool, true, List, [], ◌∷◌, ◌++◌, length, map, Option, Some, Ok, ⊤}
use Rattle.std.specs.Io.KnownBytes.{Appends}
use Rattle.std.specs.List.{All, before_first, list_all}
use Rattle.toml.specs.Parse.{parse_document}
use Rattle.rly_core.specs.declared.limits.TheConstants.{MAX_HOPS, MAX_PEERS}
use Rattle.rly_core.specs.Limits.{default_params}
use Rattle.rly_core.specs.declared.params.Params.{Params}
use Rattle.rly_network.specs.Check.{disagreements}
use Rattle.rly_network.specs.Texts.{disagreement_lines}
use Rattle.rly_network.specs.declared.station_plan.StationPlan.{StationPlan}
use Rattle.rly_network_command.specs.NetworkFiles.{AreStations, IsIdsPath}
use Rattle.rly_network_command.specs.declared.network_command_fault.NetworkCommandFault.{NetworkCommandFault}
use Rattle.rly_network_command.specs.declared.network_command_fault.NetworkCommandFault.TheVariants.{Text as TextFailed}
use Rattle.rly_network_file.specs.NetworkText.{is_network}
use Rattle.rly_network_file.specs.declared.station_files.StationFiles.{StationFiles}
use Rattle.rly_network_folder.specs.ShelfCalls.{ShelfCall, Looked, is_look}
use Rattle.rly_plan.specs.ContactPlan.{ContactPlan}
use Rattle.rly_plan.specs.Passes.{plan_of_text}

-- what was read for a name: the text at its path, the plan that this is, and the parameters that count as the device's
pub record PlanRead : Type 0 where
  pub name : List ℕ
  pub device : Params
  pub text : List ℕ
  pub plan : ContactPlan

-- the path of a name is what stands before the first `=`
abbrev pub plan_path : List ℕ → List ℕ
plan_path name = before_first (λ b. b == 61) name

-- A device of which nothing is known has each hop and peer, and otherwise the defaults. It is that of a name without a `=`; of another
-- name, the one whose parameters its file has.
abbrev pub unknown_device : Params
unknown_device = record default_params { hops = MAX_HOPS; peers = MAX_PEERS }

abbrev pub IsDeviceOf : (name : List ℕ) → Params → Type 0
IsDeviceOf name device = plan_path name ≡ name → device ≡ unknown_device

abbrev pub AreDevices : List (List ℕ) → List Params → Type 0
AreDevices [] [] = ⊤
AreDevices [] (device ∷ devices) = ⊥
AreDevices (name ∷ names) [] = ⊥
AreDevices (name ∷ names) (device ∷ devices) = IsDeviceOf name device × AreDevices names devices

abbrev pub IsReadOf : (name : List ℕ) → Params → PlanRead → Type 0
IsReadOf name device read = (read.name ≡ name) × (read.device ≡ device) × (plan_of_text read.text ≡ Ok read.plan)

abbrev pub look_of : PlanRead → ShelfCall
look_of read = Looked (plan_path read.name) (Some read.text)

abbrev pub station_of : PlanRead → StationPlan
station_of read = record { plan = read.plan; device = read.device }

-- the plans of these names, with these devices, as they were read
pub record AreRead (names : List (List ℕ)) (devices : List Params) (stations : List StationPlan) (calls : List ShelfCall) : Type 0 where
  pub reads : List PlanRead
  pub named : map (λ r. r.name) reads ≡ names
  pub beside : map (λ r. r.device) reads ≡ devices
  pub are : All (λ r. plan_of_text r.text ≡ Ok r.plan) reads
  pub stand : stations ≡ map station_of reads
  pub looked : calls ≡ map look_of reads

-- what the plans that were read disagree on was printed, and whether that is nothing
pub record HasCheckedPlans (names : List (List ℕ)) (devices : List Params) (agree : Bool) (old new : Option (List ℕ))
    (calls : List ShelfCall) : Type 0 where
  pub stations : List StationPlan
  pub read : AreRead names devices stations calls
  pub written : Appends old new (disagreement_lines (disagreements stations))
  pub told : agree ≡ (length (disagreements stations) == 0)

-- the same, after something was looked for
pub record HasCheckedNames (names : List (List ℕ)) (devices : List Params) (agree : Bool) (old new : Option (List ℕ))
    (calls : List ShelfCall) : Type 0 where
  pub first : List ShelfCall
  pub reading : List ShelfCall
  pub only : list_all is_look first ≡ true
  pub all : calls ≡ first ++ reading
  pub checked : HasCheckedPlans names devices agree old new reading

-- Lines were printed, or none, and then there are files of the stations of the text that disagree on nothing, by the ids that were
-- there. The files of passes were looked for, and then the ids.
pub record HasCheckedText (file text : List ℕ) (agree : Bool) (old new : Option (List ℕ)) (calls : List ShelfCall) : Type 0 where
  pub path : List ℕ
  pub before : Option (List ℕ)
  pub lines : List ℕ
  pub beside : IsIdsPath file path
  pub passes : List ShelfCall
  pub only : list_all is_look passes ≡ true
  pub looked : calls ≡ passes ++ Looked path before ∷ []
  pub written : Appends old new lines
  pub none : agree ≡ true → (lines ≡ []) × ((ids_text : List ℕ) × (stations : List StationFiles) × AreStations text before ids_text stations)

-- the only name is that of a network file
pub record HasCheckedFile (names : List (List ℕ)) (agree : Bool) (old new : Option (List ℕ)) (calls : List ShelfCall) : Type 0 where
  pub file : List ℕ
  pub text : List ℕ
  pub more : List ShelfCall
  pub alone : names ≡ file ∷ []
  pub network : is_network (parse_document text) ≡ true
  pub looked : calls ≡ Looked file (Some text) ∷ more
  pub checked : HasCheckedText file text agree old new more

-- one or the other
abbrev pub HasChecked : List (List ℕ) → List Params → Bool → Option (List ℕ) → Option (List ℕ) → List ShelfCall → Type 0
HasChecked names devices agree old new calls =
    HasCheckedNames names devices agree old new calls ⊎ HasCheckedFile names agree old new calls

-- Only where the output fails or memory is refused may something be printed before an error.
abbrev pub IsQuiet : NetworkCommandFault → Option (List ℕ) → Option (List ℕ) → Type 0
IsQuiet (TextFailed fault) old new = ⊤
IsQuiet _ old new = new ≡ old

-- `rly network check`: the devices are those of the files that the names have
abbrev pub HasCheckedNetwork : List (List ℕ) → Bool → Option (List ℕ) → Option (List ℕ) → Type 0
HasCheckedNetwork names agree old new =
    (devices : List Params) × AreDevices names devices × ((calls : List ShelfCall) × HasChecked names devices agree old new calls)
