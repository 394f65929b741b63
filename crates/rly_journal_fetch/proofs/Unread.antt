-- A payload that has no place isn't read.
use Rattle.std.proofs.Common.{◌≡◌, [], ◌∷◌, true, refl}
use Rattle.std.specs.Prelude.{Option, Some, None}
use Rattle.rly_disk.specs.DiskModel.{DiskState}
use Rattle.rly_disk.proofs.Traces.{leads_nothing}
use Rattle.rly_segment_checkpoint.specs.declared.stored.DeviceAddress.{DeviceAddress}
use Rattle.rly_journal_fetch.specs.FetchReads.{payload_reads}
use Rattle.rly_disk.specs.Trials.{Tries, row_of}

module _ {D : Type 0} (state : D → DiskState) where
  pub unread_tried : (a : D) (place : Option DeviceAddress) → ((found : DeviceAddress) → place ≡ Some found → ⊥) → Tries state (row_of (payload_reads place) true ∷ []) a a
  unread_tried a None never = record { events = []; leads = leads_nothing (state a); tried = ([], [], refl, refl, refl); untouched = λ none. refl }
  unread_tried a (Some place) never = absurd (never place refl)
