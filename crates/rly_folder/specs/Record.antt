-- The files and images of a folder in memory, from its record.
use Rattle.std.specs.Prelude.{◌≡◌, ◌==◌, ◌≤◌, ◌&&◌, ℕ, suc, Bool, true, false, if◌then◌else◌}
use Rattle.std.specs.Prelude.{List, [], ◌∷◌, ◌++◌, drop, length, take, Option, None, Some, is_some}
use Rattle.std.specs.Option.{option_and_then}
use Rattle.rly_folder.specs.FolderCalls.{MayBeMade}
use Rattle.rly_folder.specs.FolderModel.{Files, as_file, with_file}
use Rattle.rly_folder.specs.Names.{is_same_name, name_of}
use Rattle.rly_folder.specs.declared.name.Area.{Area}
use Rattle.rly_folder.specs.declared.name.Name.{Name}
use Rattle.rly_folder.specs.declared.record.Event.{Event}
use Rattle.rly_folder.specs.declared.record.Event.TheVariants.{Moved, Put, Synced, Taken, Undone}

abbrev pub no_files : Files
no_files = λ name. None

-- what an event makes of some files
abbrev pub files_with : Event → Files → Files
files_with (Put name file) files = with_file name (Some (as_file file)) files
files_with (Taken name) files = with_file name None files
files_with (Moved from to file) files = with_file to (Some (as_file file)) (with_file from None files)
files_with Synced files = files
files_with Undone files = files

-- the crash images after an event
abbrev pub images_with : Event → Files → (Files → Type 0) → Files → Type 0
images_with (Put name file) files before = MayBeMade (files_with (Put name file)) before
images_with (Taken name) files before = MayBeMade (files_with (Taken name)) before
images_with (Moved from to file) files before = MayBeMade (files_with (Moved from to file)) before
images_with Synced files before = λ image. image ≡ files
images_with Undone files before = before

-- the same after a list of events
abbrev pub files_from : List Event → Files → Files
files_from [] files = files
files_from (event ∷ events) files = files_from events (files_with event files)

abbrev pub images_from : List Event → Files → (Files → Type 0) → Files → Type 0
images_from [] files images = images
images_from (event ∷ events) files images = images_from events (files_with event files) (images_with event files images)

-- a folder that begins empty
abbrev pub files_of : List Event → Files
files_of events = files_from events no_files

abbrev pub IsImage : List Event → Files → Type 0
IsImage events = images_from events no_files (λ image. image ≡ no_files)

-- an image of some moment since the first t events
abbrev pub WasImage : List Event → ℕ → Files → Type 0
WasImage events t image = (k : ℕ) × (t ≤ k) × (k ≤ length events) × IsImage (take k events) image

abbrev pub is_sync : Event → Bool
is_sync (Put name file) = false
is_sync (Taken name) = false
is_sync (Moved from to file) = false
is_sync Synced = true
is_sync Undone = false

-- the number of events up to and including the last sync, with one more at the front
abbrev pub synced_with : Bool → ℕ → ℕ
synced_with sync synced = if sync then suc synced else if synced == 0 then 0 else suc synced

-- the number of events up to and including the last sync
abbrev pub synced_events : List Event → ℕ
synced_events [] = 0
synced_events (event ∷ events) = synced_with (is_sync event) (synced_events events)

-- the events after the last sync
abbrev pub events_since_sync : List Event → List Event
events_since_sync events = drop (synced_events events) events

-- the events, of which only those that stand are made: each as its place in a list says, and none past its end
abbrev pub standing : List Bool → List Event → List Event
standing stands [] = []
standing [] (event ∷ events) = Undone ∷ standing [] events
standing (stand ∷ stands) (event ∷ events) = (if stand then event else Undone) ∷ standing stands events

-- the record after a crash, of which these pending changes stand
abbrev pub after_crash : List Bool → List Event → List Event
after_crash stands events = take (synced_events events) events ++ standing stands (events_since_sync events)

-- the files that it leaves
abbrev pub files_left : List Bool → List Event → Files
files_left stands events = files_of (after_crash stands events)

-- the name that an event puts a file under
abbrev pub put_name : Event → Option Name
put_name (Put name file) = Some name
put_name (Taken name) = None
put_name (Moved from to file) = Some to
put_name Synced = None
put_name Undone = None

-- the number of the file that an event put into an area, if that is there
abbrev pub listed_number : Files → Area → Event → Option ℕ
listed_number files area event = option_and_then
    (λ name. if is_same_name name (name_of area name.number) && is_some (files name) then Some name.number else None)
    (put_name event)
