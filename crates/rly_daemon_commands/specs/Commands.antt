-- The results of the commands that succeed, except `plan` and `key` (docs/COMMANDS.md).
use Rattle.std.specs.Prelude.{◌≡◌, ℕ, List, ◌∷◌, [], ◌++◌, max, min, Bool, MatchBool, Option, false, not, codes}
use Rattle.std.specs.Fmt.{decimal}
use Rattle.std.specs.Io.KnownBytes.{Appends}
use Rattle.rly_audit.specs.Audit.{IsReported}
use Rattle.rly_audit.specs.Made.{IsMadeTold}
use Rattle.rly_core.specs.declared.params.Geometry.{Geometry}
use Rattle.rly_journal.specs.Journal.{JournalState}
use Rattle.rly_segment.specs.Device.{device_length}
use Rattle.rly_daemon_commands.specs.FileDisk.{file_state, is_locked}
use Rattle.rly_daemon_commands.specs.FormatCommand.{HasMade}
use Rattle.rly_daemon_commands.specs.declared.file_disk.FileDisk.{FileDisk}
use Rattle.rly_daemon_lines.specs.PlayedText.{PlaysAll}

-- the line with the size of a new device in bytes
abbrev pub size_line : ℕ → List ℕ
size_line size = codes "formatted " ++ decimal size ++ 10 ∷ []

-- the number of lines per round: 1 to 64
abbrev pub lines_a_round : ℕ → ℕ
lines_a_round batch = max 1 (min batch 64)

-- A disk was opened, with a lock unless it is a copy. The report on the state that it was opened in was written, in which
-- the books balance; with `made` the line of what it was made with, and nothing else.
pub record HasAudited (made copy : Bool) (old new : Option (List ℕ)) : Type 0 where
  pub disk : FileDisk
  pub lock : is_locked disk ≡ not copy
  pub told : MatchBool made (IsMadeTold (file_state disk) old new) (IsReported (file_state disk) old new)

-- a journal was opened whole, all lines were played on it, and it is whole after them
pub record HasPlayed (batch : ℕ) (left old new : Option (List ℕ)) : Type 0 where
  pub opened : JournalState FileDisk
  pub behind : JournalState FileDisk
  pub whole : opened.broken ≡ false
  pub goes : behind.broken ≡ false
  pub played : PlaysAll (lines_a_round batch) file_state opened behind left old new

-- a new device was made, and its size printed
pub record HasFormatted (geometry : Geometry) (force : Bool) (old new : Option (List ℕ)) : Type 0 where
  pub made : HasMade geometry force
  pub written : Appends old new (size_line (device_length geometry))
