-- Helpers: the proof that `FaultFolder` is a `Folder`. They claim nothing beyond the contract of `Folder`.
use Rattle.std.specs.Prelude.{◌≤◌}
use Rattle.rly_folder.specs.FaultFolder.{fault_state}
use Rattle.rly_folder.specs.FolderModel.{Consistent, FolderState}
use Rattle.rly_folder.specs.declared.fault_folder.FaultFolder.{FaultFolder}

pub fault_consistent : {F : Type 0} (state : F → FolderState) (folder : FaultFolder F)
    → Consistent (state folder.inner) → Consistent (fault_state state folder)
fault_consistent state folder facts = record {
  seen_is_image = facts.seen_is_image;
  counts_now = facts.counts_now;
  only_now = facts.only_now;
}

pub fault_calls_lead : {F : Type 0} (folder : FaultFolder F)
    → (folder.counts.failures ≤ folder.counts.calls) × (folder.counts.syncs ≤ folder.counts.calls)
fault_calls_lead folder = (folder.counts.failures_are_calls, folder.counts.syncs_are_calls)
