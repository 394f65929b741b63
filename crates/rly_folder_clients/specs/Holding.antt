-- Properties of a folder's files that hold of what a program sees and of each crash image.
use Rattle.std.specs.Prelude.{◌≡◌, ◌⊎◌, Bool, true, ℕ, List, Option, Some}
use Rattle.rly_folder.specs.FolderModel.{File, Files, FolderState, LeavesOnly}
use Rattle.rly_folder.specs.declared.name.Name.{Name}

-- a folder that keeps to the model: the property holds of the files that are seen, and of those that a crash now leaves
pub record Holds (P : Files → Type 0) (folder : FolderState) : Type 0 where
  pub honest : folder.honest
  pub seen : P folder.seen.files
  pub each : (c : Files) → folder.images c → P c

-- a crash at any moment leaves files with the property, and at the end it holds
pub record Stays (P : Files → Type 0) (old new : FolderState) : Type 0 where
  pub crashes : LeavesOnly old new P
  pub holds : Holds P new

-- each name has one of these files, or none if that is one of these
abbrev pub HasOnly : (Name → Option File → Bool) → Files → Type 0
HasOnly given files = (name : Name) → given name (files name) ≡ true

-- and one name may have this file instead
abbrev pub HasOnlyOr : (Name → Option File → Bool) → Name → File → Files → Type 0
HasOnlyOr given to file files = (name : Name) → (given name (files name) ≡ true) ⊎ ((name ≡ to) × (files name ≡ Some file))
