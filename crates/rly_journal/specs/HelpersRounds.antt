-- Helpers: the result of opening a segment, and of a round's calls before their replies. No public contract cites them;
-- `Journal` defines a round.
use Rattle.std.specs.Prelude.{◌≡◌, ℕ, List, Bool, true, false, Result, Ok, Err}
use Rattle.rly_core.specs.declared.refusal.Refusal.{Refusal}
use Rattle.rly_core.specs.declared.refusal.Refusal.TheVariants.{DeviceRead, OutOfMemory, Unsure}
use Rattle.rly_disk.specs.DiskModel.{DiskState}
use Rattle.rly_machine.specs.declared.call.Call.{Call}
use Rattle.rly_machine.specs.State.{State}
use Rattle.rly_journal_index.specs.Index.{IndexState}
use Rattle.rly_journal.specs.declared.tail.Tail.{Tail}
use Rattle.rly_journal.specs.declared.next_segment.RenewFault.{RenewFault}
use Rattle.rly_journal.specs.declared.next_segment.RenewFault.TheVariants as fault
use Rattle.rly_journal.specs.HelpersJournal.{IsSoundJournal}
use Rattle.rly_journal.specs.HelpersReady.{IsReadied}

-- the refusal of all calls of a round if no segment was opened for them
abbrev pub refusal_without_segment : {A : Type 0} → Result A RenewFault → Result A Refusal
refusal_without_segment (Ok done) = Ok done
refusal_without_segment (Err fault.OutOfMemory) = Err OutOfMemory
refusal_without_segment (Err fault.Read) = Err DeviceRead
refusal_without_segment (Err fault.Device) = Err Unsure

-- a write or a sync failed
abbrev pub is_cut : {A : Type 0} → Result A RenewFault → Bool
is_cut (Err fault.Device) = true
is_cut _ = false

-- all effects of opening a segment on a journal that wasn't broken, in terms of its ghost index: its invariant, and
-- that the round of these calls has room, or their refusal
pub record IsRenewing {A D : Type 0} (state : D → DiskState) (before after : Tail) (x : IndexState)
    (s : State (List ℕ)) (position : ℕ) (calls : List Call) (result : Result A RenewFault) (old new : D) : Type 0 where
  pub geometry : after.geometry ≡ before.geometry
  pub sound : IsSoundJournal (state new) after x s position (is_cut result)
  pub readied : IsReadied state
      (record { disk = old; tail = before; state = s; position = position; broken = false })
      (record { disk = new; tail = after; state = s; position = position; broken = is_cut result })
      calls (refusal_without_segment result)
