-- The files that writers put into a folder, on their way to a station's custody.
use Rattle.std.specs.Prelude.{◌≡◌, ◌⊎◌, ◌≤◌, ◌<◌, ◌==◌, ℕ, Bool, true, false, if◌then◌else◌, List, [], ◌∷◌, Option, None, Some, IsSome, ⊤}
use Rattle.rly_folder.specs.FolderCalls.{Declined, Done, Failed, FolderEvent, Other}
use Rattle.rly_folder.specs.FolderModel.{File, Files, FolderState, LeavesOnly}
use Rattle.rly_folder.specs.Names.{name_of}
use Rattle.rly_folder.specs.declared.name.Area.{Area}
use Rattle.rly_folder.specs.declared.name.Area.TheVariants.{Kept, New, NoRoute, Out, Printed, Sent, TooLong, TooShort}
use Rattle.rly_folder.specs.declared.name.Name.{Name}

-- all files that were ever put, or are being put
pub record Ledger : Type 0 where
  pub file : ℕ → File
  -- the one name of each file; none before its put
  pub place : ℕ → Option Name
  -- its put ended: no crash undoes it
  pub ended : ℕ → Bool

-- the areas of files that were put in
abbrev pub is_incoming : Area → Bool
is_incoming New = true
is_incoming Sent = true
is_incoming NoRoute = true
is_incoming TooLong = true
is_incoming TooShort = true
is_incoming Out = false
is_incoming Kept = false
is_incoming Printed = false

-- a file may be absent while its put hasn't ended, or once its number is in the station's custody
abbrev pub MayLack : ℕ → Bool → Name → Type 0
MayLack custody ended name =
    ((name.area ≡ New) × (ended ≡ false)) ⊎ ((name.area ≡ Sent) × (name.number ≤ custody))

-- each file is whole under its one name, and no name has a copy or another file
pub record Stores (custody : ℕ) (ledger : Ledger) (files : Files) : Type 0 where
  pub there : (i : ℕ) (name : Name) → ledger.place i ≡ Some name → (files name ≡ Some (ledger.file i))
      ⊎ ((files name ≡ None) × MayLack custody (ledger.ended i) name)
  pub whose : (name : Name) → is_incoming name.area ≡ true → IsSome (files name)
      → (i : ℕ) × (ledger.place i ≡ Some name)

-- no name is that of two files, and the numbers above the station's go on from it to the last one
pub record Fits (custody last : ℕ) (ledger : Ledger) : Type 0 where
  pub within : custody ≤ last
  pub distinct : (i j : ℕ) (name : Name) → ledger.place i ≡ Some name → ledger.place j ≡ Some name → i ≡ j
  pub numbered : (n : ℕ) → custody < n → n ≤ last → (i : ℕ) × (ledger.place i ≡ Some (name_of Sent n))
  pub bound : (i n : ℕ) → ledger.place i ≡ Some (name_of Sent n) → n ≤ last

-- a folder that keeps to the model, of which this is true now, and in each crash image
pub record Keeps (custody last : ℕ) (ledger : Ledger) (folder : FolderState) : Type 0 where
  pub honest : folder.honest
  pub fits : Fits custody last ledger
  pub seen : Stores custody ledger folder.seen.files
  pub each : (c : Files) → folder.images c → Stores custody ledger c

-- a file has another name, and stays
abbrev pub placed : ℕ → Name → Ledger → Ledger
placed i to ledger = record {
  file = ledger.file;
  place = λ j. if j == i then Some to else ledger.place j;
  ended = λ j. if j == i then true else ledger.ended j;
}

-- if another program changed a name, it put one of these files under its name of `new/`
abbrev pub IsWriter : Ledger → (ℕ → Bool) → FolderEvent → Type 0
IsWriter ledger puts (Done call) = ⊤
IsWriter ledger puts (Declined call) = ⊤
IsWriter ledger puts (Failed call done hidden) = ⊤
IsWriter ledger puts (Other name file) = (i : ℕ) × (number : ℕ) × (name ≡ name_of New number)
    × (ledger.place i ≡ Some name) × (file ≡ Some (ledger.file i)) × (puts i ≡ true)

-- other programs only put files
abbrev pub OnlyWriters : Ledger → (ℕ → Bool) → List FolderEvent → Type 0
OnlyWriters ledger puts [] = ⊤
OnlyWriters ledger puts (event ∷ events) = IsWriter ledger puts event × OnlyWriters ledger puts events

-- from one ledger to the next, in which one file has another name: a crash at any moment leaves each file once, that one
-- under either name; and if all calls were done the next ledger holds, else either
pub record Moved (custody next_last : ℕ) (ledger next : Ledger) (whole : Bool) (old new : FolderState) : Type 0 where
  pub crashes : LeavesOnly old new (λ c. Stores custody ledger c ⊎ Stores custody next c)
  pub keeps : whole ≡ true → Keeps custody next_last next new
  pub seen : Stores custody ledger new.seen.files ⊎ Stores custody next new.seen.files
  pub each : (c : Files) → new.images c → Stores custody ledger c ⊎ Stores custody next c

-- to a later number of the station: a crash at any moment leaves each file above it, and no file twice
pub record Frees (custody last : ℕ) (ledger : Ledger) (old new : FolderState) : Type 0 where
  pub crashes : LeavesOnly old new (Stores custody ledger)
  pub keeps : Keeps custody last ledger new
