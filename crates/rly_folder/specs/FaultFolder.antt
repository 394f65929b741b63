-- The state in contracts of a folder that fails at a chosen call.
use Rattle.std.specs.Prelude.{◌==◌, ◌&&◌, ◌+◌, ℕ, Bool, not, nat_le}
use Rattle.rly_folder.specs.FolderModel.{FolderState}
use Rattle.rly_folder.specs.declared.fault_folder.After.{After}
use Rattle.rly_folder.specs.declared.fault_folder.After.TheVariants.{GoesOn, Stops}
use Rattle.rly_folder.specs.declared.fault_folder.FaultFolder.{FaultFolder}

abbrev pub inner_of : {F : Type 0} → FaultFolder F → F
inner_of folder = folder.inner

-- the number of the call that fails, whether it is made nevertheless, and the behaviour after it
abbrev pub fault_plan : {F : Type 0} → FaultFolder F → ℕ × Bool × After
fault_plan folder = (folder.at, folder.made, folder.after)

-- a change that was chosen to fail is made nevertheless
abbrev pub makes_failing : {F : Type 0} → FaultFolder F → Bool
makes_failing folder = folder.made

-- the call of this number was chosen to fail
abbrev pub is_failing_call : ℕ → After → ℕ → Bool
is_failing_call at GoesOn number = number == at
is_failing_call at Stops number = not (at == 0) && nat_le at number

-- the next call was chosen to fail
abbrev pub fails_next : {F : Type 0} → FaultFolder F → Bool
fails_next folder = is_failing_call folder.at folder.after (folder.counts.calls + 1)

-- its files and crash images are those of the folder inside, and its counters its own
abbrev pub fault_state : {F : Type 0} → (F → FolderState) → FaultFolder F → FolderState
fault_state state folder = record (state folder.inner) {
  calls = folder.counts.calls;
  failures = folder.counts.failures;
  syncs = folder.counts.syncs;
}
