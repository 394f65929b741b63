-- The state of a folder in contracts (docs/reference/DEFINITIONS.md, "The folder model").
use Rattle.std.specs.Prelude.{◌≡◌, ◌⊎◌, ◌↔◌, ◌≤◌, ◌-◌, ◌^◌, ℕ, List, Option, IsSome, Contains, if◌then◌else◌, take}
use Rattle.std.specs.List.Sorted.{IsStrictlyIncreasing}
use Rattle.rly_folder.specs.Names.{is_same_name, name_of}
use Rattle.rly_folder.specs.declared.folder_file.FolderFile.{FolderFile}
use Rattle.rly_folder.specs.declared.name.Area.{Area}
use Rattle.rly_folder.specs.declared.name.Name.{Name}

-- a file: its bytes, and the age limit of its datagram in microseconds, 0 if it has none
pub record File : Type 0 where
  pub bytes : List ℕ
  pub limit : ℕ

abbrev pub file_with : List ℕ → ℕ → File
file_with bytes limit = record { bytes = bytes; limit = limit }

abbrev pub as_file : FolderFile → File
as_file file = file_with file.bytes.items file.limit

-- the first bytes of a file, and its limit
abbrev pub front_of : ℕ → File → File
front_of most file = file_with (take most file.bytes) file.limit

-- the file of each name: none if the name isn't there
abbrev pub Files : Type 0
Files = Name → Option File

-- the files, with this one under a name, or none
abbrev pub with_file : Name → Option File → Files → Files
with_file name file files = λ other. if is_same_name other name then file else files other

-- what the station sees: the files, and its hidden file, if that was written whole
pub record Contents : Type 0 where
  pub files : Files
  pub hidden : Option File

-- the state of a folder in contracts
pub record FolderState : Type 1 where
  pub seen : Contents
  -- the crash images of this moment: the files that a crash now may leave
  pub images : Files → Type 0
  -- the number of this moment, which doesn't fall
  pub moment : ℕ
  -- the crash images of any moment since that number, within a call too
  pub since : ℕ → Files → Type 0
  -- it keeps to the folder model
  pub honest : Type 0
  -- the number of calls, of failed calls, and of syncs, failed ones too
  pub calls : ℕ
  pub failures : ℕ
  pub syncs : ℕ

-- these are the numbers of an area's files, each once, the least first
pub record IsListing (area : Area) (files : Files) (numbers : List ℕ) : Type 0 where
  pub increasing : IsStrictlyIncreasing numbers
  pub each : (number : ℕ) → Contains numbers number ↔ IsSome (files (name_of area number))

-- the invariant of an honest folder
pub record Consistent (folder : FolderState) : Type 0 where
  -- a crash may leave the files that the station sees
  pub seen_is_image : folder.images folder.seen.files
  -- the images of this moment are among those since an earlier one
  pub counts_now : (t : ℕ) (c : Files) → t ≤ folder.moment → folder.images c → folder.since t c
  -- since this moment there are no other images
  pub only_now : (c : Files) → folder.since folder.moment c → folder.images c

-- no change is pending: the folder is honest, and its only image is the files that the station sees
pub record Settled (folder : FolderState) : Type 0 where
  pub honest : folder.honest
  pub consistent : Consistent folder
  pub only : (c : Files) → folder.images c → c ≡ folder.seen.files

-- the number of calls has the maximum value of 64 bits: each call fails and changes nothing
abbrev pub IsSpent : FolderState → Type 0
IsSpent folder = 2 ^ 64 - 1 ≤ folder.calls

-- a crash at any moment of what led from old to new leaves files with P
pub record LeavesOnly (old new : FolderState) (P : Files → Type 0) : Type 0 where
  pub later : old.moment ≤ new.moment
  pub each : (c : Files) → new.since old.moment c → P c
  -- for what began earlier
  pub before : (t : ℕ) (c : Files) → t ≤ old.moment → new.since t c → old.since t c ⊎ P c
