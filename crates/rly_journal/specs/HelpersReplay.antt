-- Helpers: the progress of reading a device. No public contract cites them; `Standing` of rly_journal and `Faults`
-- define the result of an opening.
use Rattle.std.specs.Prelude.{◌≡◌, ◌+◌, ℕ, Bool, true, false, Result, Ok, Err, length}
use Rattle.rly_disk.specs.DiskModel.{DiskState}
use Rattle.rly_disk.specs.Trace.{Makes}
use Rattle.rly_machine.specs.Fold.{AllAccepted, fold}
use Rattle.rly_record.specs.Spelling.{body_of}
use Rattle.rly_segment_checkpoint.specs.Stored.{stored_length}
use Rattle.rly_journal_index.specs.Index.{IndexState, IsAt}
use Rattle.rly_journal.specs.GroupAddresses.{Commands, placed_group}
use Rattle.rly_journal.specs.declared.open_fault.OpenFault.{OpenFault}
use Rattle.rly_journal.specs.declared.open_fault.OpenFault.TheVariants.{OutOfMemory}
use Rattle.rly_journal.specs.declared.tail.Tail.{Tail}
use Rattle.rly_journal.specs.OpenCalls.{EndsScan, Scan, scan_before}
use Rattle.rly_journal.specs.HelpersOpenCalls.{IsCutShort, IsRead}
use Rattle.rly_journal.specs.OpenFaults.{IsRefused}
use Rattle.rly_journal.specs.HelpersJournal.{IsAtEnd, IsLoggedFor, IsReplayedFor, IsShaped}

-- the newest head was read, and groups after it up to this point
pub record IsReading {D : Type 0} (state : D → DiskState) (tail : Tail) (x : IndexState) (old new : D) : Type 0 where
  pub shaped : IsShaped (state new).size tail x
  pub ends : IsAtEnd tail x
  pub replayed : (state old).honest → IsReplayedFor (state old).seen tail x
  pub scanned : (y : Scan) × EndsScan tail y × Makes state (scan_before y) true old new

-- all was read
pub record IsRecovered {D : Type 0} (state : D → DiskState) (tail : Tail) (x : IndexState) (old new : D) : Type 0 where
  pub shaped : IsShaped (state new).size tail x
  pub ends : IsAtEnd tail x
  pub logged : (state old).honest → IsLoggedFor (state old).seen tail x
  pub trace : IsRead state tail old new

-- the reading failed
pub record IsGivenUp {D : Type 0} (state : D → DiskState) (why : OpenFault) (old new : D) : Type 0 where
  pub refused : (state old).honest → IsRefused (state old).seen why
  pub trace : IsCutShort state why old new

-- the result of reading one more group, or the closed gate after the last one
abbrev pub IsReadOn : {D : Type 0} → (D → DiskState) → Result Bool OpenFault → Tail → IndexState → D → D → Type 0
IsReadOn state (Ok true) tail x old new = IsReading state tail x old new
IsReadOn state (Ok false) tail x old new = IsRecovered state tail x old new
IsReadOn state (Err why) tail x old new = IsGivenUp state why old new

-- the commands of a group at a gate were replayed
pub record IsRedone (old : IndexState) (gate : ℕ) (commands : Commands) (new : IndexState) : Type 0 where
  pub accepted : AllAccepted stored_length old.spool.state (placed_group gate commands)
  pub state : new.spool.state ≡ fold stored_length old.spool.state (placed_group gate commands)
  pub at : IsAt old.geometry old.segment (gate + 5 + length (body_of commands)) new

-- or one wasn't accepted, or memory allocation failed
abbrev pub IsTriedAgain : Result Bool OpenFault → IndexState → ℕ → Commands → IndexState → Type 0
IsTriedAgain (Ok true) old gate commands new = IsRedone old gate commands new
IsTriedAgain (Ok false) old gate commands new =
    AllAccepted stored_length old.spool.state (placed_group gate commands) → ⊥
IsTriedAgain (Err why) old gate commands new = why ≡ OutOfMemory
