-- The model of a disk over a file.
use Rattle.std.specs.Prelude.{◌≤◌, ℕ, Bool, [], Option, Some, None, is_some, Result, Ok, Err}
use Rattle.std.specs.IoError.{error_kind}
use Rattle.std.specs.declared.io.Error.{Error}
use Rattle.rly_disk.specs.DiskModel.{Consistent, DiskState}
use Rattle.rly_station.specs.Faults.{part_of}
use Rattle.rly_station.specs.declared.file_fault.FileFault.{FileFault}
use Rattle.rly_station.specs.declared.file_fault.SystemWord.{SystemWord}
use Rattle.rly_daemon_commands.specs.declared.file_disk.FileDisk.{FileDisk}

-- its size and its counts; of the bytes of a real file nothing can be proved, so it is never honest
abbrev pub file_state : FileDisk → DiskState
file_state disk = record {
  size = disk.size;
  seen = [];
  images = λ image. ⊥;
  moment = 0;
  since = λ moment image. ⊥;
  honest = ⊥;
  calls = disk.counts.calls;
  failures = disk.counts.failures;
  syncs = disk.counts.syncs;
  failed_reads = disk.counts.failed_reads;
}

-- the file is locked: that of a copy isn't
abbrev pub is_locked : FileDisk → Bool
is_locked disk = is_some disk.lock

-- the fault of a system error, if there is one
abbrev pub fault_of : Option SystemWord → Option FileFault
fault_of None = None
fault_of (Some word) = Some (record { part = part_of (error_kind word.0); word = word })

-- the fault of the first of its calls that failed
abbrev pub first_fault : FileDisk → Option FileFault
first_fault disk = fault_of disk.word

-- the error kept after a call: the system's for the first that failed
abbrev pub kept_word : {A : Type 0} → Option SystemWord → Result A Error → Option SystemWord
kept_word (Some word) outcome = Some word
kept_word None (Err error) = Some (record { 0 = error })
kept_word None (Ok done) = None

-- one if the call failed, else none
abbrev pub one_if_failed : {A : Type 0} → Result A Error → ℕ
one_if_failed (Ok done) = 0
one_if_failed (Err error) = 1

pub file_consistent : (disk : FileDisk) → ⊥ → Consistent (file_state disk)
file_consistent disk honest = absurd honest

pub file_calls_lead : (disk : FileDisk)
    → (disk.counts.failures ≤ disk.counts.calls) × (disk.counts.syncs ≤ disk.counts.calls)
    × (disk.counts.failed_reads ≤ disk.counts.failures)
file_calls_lead disk =
    (disk.counts.failures_are_calls, disk.counts.syncs_are_calls, disk.counts.failed_reads_are_failures)
