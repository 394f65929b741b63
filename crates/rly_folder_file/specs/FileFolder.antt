-- The model of a folder of the file system.
use Rattle.std.specs.Prelude.{◌≤◌, ℕ, Bool, List, Option, None, is_some}
use Rattle.std.specs.declared.fs.File.{File}
use Rattle.rly_folder.specs.FolderModel.{Consistent, FolderState}
use Rattle.rly_folder_file.specs.Root.{root_own, root_path}
use Rattle.rly_folder_file.specs.declared.fault.PlaceFault.{PlaceFault}
use Rattle.rly_folder_file.specs.declared.file_folder.FileFolder.{FileFolder}
use Rattle.rly_folder_file.specs.declared.foreign.Foreign.{Foreign}
use Rattle.rly_folder_file.specs.declared.sub_folders.SubFolders.{SubFolders}

-- its counters; of the files of a real folder nothing can be proved, so it is never honest
abbrev pub file_state : {H : Type 0} → FileFolder H → FolderState
file_state folder = record {
  seen = record { files = λ name. None; hidden = None };
  images = λ image. ⊥;
  moment = 0;
  since = λ moment image. ⊥;
  honest = ⊥;
  calls = folder.counts.calls;
  failures = folder.counts.failures;
  syncs = folder.counts.syncs;
}

-- the path under which it was opened
abbrev pub folder_path : {H : Type 0} → FileFolder H → List ℕ
folder_path folder = root_path folder.root

-- the name that its hidden files have
abbrev pub folder_own : {H : Type 0} → FileFolder H → List ℕ
folder_own folder = root_own folder.root

abbrev pub is_locked : {H : Type 0} → FileFolder H → Bool
is_locked folder = is_some folder.lock

-- the last failed call of the system
abbrev pub last_fault : {H : Type 0} → FileFolder H → Option PlaceFault
last_fault folder = folder.fault

-- the foreign files that were seen
abbrev pub foreign_of : {H : Type 0} → FileFolder H → Foreign
foreign_of folder = folder.foreign

-- the file that got a name last
abbrev pub linked_of : {H : Type 0} → FileFolder H → Option File
linked_of folder = folder.linked

-- the sub-folders that the next sync is of
abbrev pub pending_of : {H : Type 0} → FileFolder H → SubFolders
pending_of folder = folder.touched

pub file_consistent : {H : Type 0} (folder : FileFolder H) → ⊥ → Consistent (file_state folder)
file_consistent folder honest = absurd honest

pub file_calls_lead : {H : Type 0} (folder : FileFolder H)
    → (folder.counts.failures ≤ folder.counts.calls) × (folder.counts.syncs ≤ folder.counts.calls)
file_calls_lead folder = (folder.counts.failures_are_calls, folder.counts.syncs_are_calls)
