-- The result of a run of the program, by its command line (docs/COMMANDS.md).
use Rattle.std.specs.Prelude.{◌≡◌, ◌⊎◌, ℕ, ◌+◌, ◌-◌, ◌*◌, ◌^◌, ◌≤◌, ◌==◌, MatchBool, List, [], ◌∷◌, ◌++◌, length, map, IfSome, ⊤}
use Rattle.std.specs.Prelude.{Bool, Option, None, true, false, codes, is_some, unwrap_or}
use Rattle.std.specs.Fmt.{decimal}
use Rattle.std.specs.Io.KnownBytes.{Appends}
use Rattle.rly_core.specs.Limits.{IsWithinLimits}
use Rattle.rly_flush.specs.FlusherHistory.{FlusherState, IsServed, new_flusher}
use Rattle.rly_line.specs.Replies.{ReplyId}
use Rattle.rly_line.specs.Seats.{Caller}
use Rattle.rly_line.specs.Submission.{LineId}
use Rattle.rly_plan.specs.ContactPlan.{ContactPlan}
use Rattle.rly_threads.specs.Relay.{new_end}
use Rattle.rly_journal.specs.Journal.{JournalState}
use Rattle.rly_machine.specs.State.{new_state}
use Rattle.rly_daemon_reporter.specs.declared.reporter.ReporterEnd.{ReporterEnd}
use Rattle.rly_daemon_reporter.specs.declared.reporter.ReporterEnd.TheVariants.{Closed, NoneDue}
use Rattle.rly_segment.specs.Device.{IsLayout, device_length}
use Rattle.rly_daemon_args.specs.declared.given.Settings.{Settings}
use Rattle.rly_daemon_args.specs.declared.given.Settings.TheVariants.{Sim, Format, Play, Audit, Serve, Key, Plan, Put, Get}
use Rattle.rly_daemon_args.specs.declared.given.Settings.TheVariants.{NetworkCheck, NetworkDraw, NetworkWrite}
use Rattle.rly_daemon_commands.specs.Commands.{HasAudited, HasFormatted, HasPlayed}
use Rattle.rly_daemon_commands.specs.FileDisk.{file_state}
use Rattle.rly_daemon_commands.specs.FormatCommand.{wanted_geometry}
use Rattle.rly_daemon_commands.specs.NewKey.{HasKey}
use Rattle.rly_daemon_commands.specs.PlanCommand.{HasShownPlan}
use Rattle.rly_daemon_folder.specs.FolderCommands.{HasPrinted, HasPut, is_over}
use Rattle.rly_daemon_folder.specs.declared.input_form.InputForm.{InputForm}
use Rattle.rly_folder_clients.specs.declared.form.Form.{Form}
use Rattle.rly_daemon.specs.CountedDisk.{counted_state}
use Rattle.rly_disk.specs.DiskModel.{DiskState}
use Rattle.rly_daemon_serve.specs.ReportedRelay.{HasReports}
use Rattle.rly_daemon_serve.specs.ServedRelay.{FitsPlan}
use Rattle.rly_network_command.specs.NetworkCheck.{HasCheckedNetwork}
use Rattle.rly_network_command.specs.NetworkWrite.{HasDrawnNetwork, HasWrittenNetwork}
use Rattle.rly_station.specs.Workers.{workers_of}
use Rattle.rly_daemon_lines.specs.Text.{text_for}
use Rattle.rly_daemon_commands.specs.declared.file_disk.FileDisk.{FileDisk}
use Rattle.rly_daemon.specs.declared.counted_disk.CountedDisk.{CountedDisk}
use Rattle.rly_daemon.specs.declared.program_fault.ProgramFault.{ProgramFault}
use Rattle.rly_daemon.specs.declared.program_fault.ProgramFault.TheVariants.{Command, Disagreement, Folder, Network}

-- the log line for the end
abbrev pub ended_line : ℕ → List ℕ
ended_line turns = codes "rly: ended after " ++ decimal turns ++ codes " turns" ++ 10 ∷ []

-- A plan was served on a device that was opened whole, until its workers had their turns, and the journal is whole
-- after all rounds. Its queue had a seat for each worker, and as many for others. The reason for its end was
-- logged.
pub record HasServedAt {D : Type 0} (state : D → DiskState) (turns others : ℕ) (new : Option (List ℕ))
    (plan : ContactPlan) (left : FlusherState D) : Type 0 where
  pub opened : JournalState D
  pub room : FitsPlan plan opened.state.params
  pub ends : 1 ≤ turns
  pub begun : opened.broken ≡ false
  pub whole : left.journal.broken ≡ false
  pub line : LineId
  pub names : List (Option ReplyId)
  pub seats : length names ≡ length (workers_of plan) + others
  pub served : IsServed state (new_flusher opened (new_end line names)) left
  pub begins : Option (List ℕ)
  pub told : Appends begins new (ended_line turns)

abbrev pub HasServed : ℕ → Option (List ℕ) → Type 0
HasServed turns new =
    (plan : ContactPlan) × (left : FlusherState FileDisk) × HasServedAt file_state turns 0 new plan left

-- The same, with reports: the output is a report at each due moment, of the answers at a seat after those of the
-- workers, in the one history of the device, whose gates were counted.
pub record HasServedReporting (turns : ℕ) (old new told : Option (List ℕ)) : Type 0 where
  pub plan : ContactPlan
  pub left : FlusherState (CountedDisk FileDisk)
  pub served : HasServedAt (counted_state file_state) turns 1 told plan left
  pub seat : Caller
  pub end : ReporterEnd
  pub all : (end ≡ NoneDue) ⊎ (end ≡ Closed)
  pub reports : HasReports plan left.line old new seat end

-- As requested: without reports and events nothing was written. With events, which share the output with the reports, it
-- isn't known what that holds.
abbrev pub HasServedWith : ℕ → ℕ → Bool → Option (List ℕ) → Option (List ℕ) → Option (List ℕ) → Type 0
HasServedWith turns report true old new told = HasServedReporting turns None None told
HasServedWith turns report false old new told =
    MatchBool (report == 0) ((new ≡ old) × HasServed turns told) (HasServedReporting turns old new told)

-- the form of an input, and that of a payload, by the options
abbrev pub put_form : Bool → Option ℕ → InputForm
put_form lines destination = record { lines = lines; destination = destination }

-- the age limit in microseconds, from that in milliseconds: 0 for none
abbrev pub put_limit : Option ℕ → ℕ
put_limit limit = unwrap_or limit 0 * 1000

abbrev pub get_form : (lines raw : Bool) → Form
get_form lines raw = record { raw = raw; lines = lines }

-- a command that succeeded: the reader before and after it, the bytes available to read, those of the writer before
-- and after it, and those of standard error
abbrev pub IsDone : {R : Type 0} → (H : Type 0) → Settings → R → R → Option (List ℕ) → Option (List ℕ) → Option (List ℕ)
    → Option (List ℕ) → Option (List ℕ) → Type 0
IsDone H (Sim params) before behind left old new told_old told_new = IsWithinLimits params
    × IfSome left (λ input. Appends old new (text_for (new_state params) input)) × (told_new ≡ told_old)
IsDone H (Format file params segments length force allocate) before behind left old new told_old told_new = (behind ≡ before)
    × HasFormatted (wanted_geometry params segments length) force old new × (told_new ≡ told_old)
IsDone H (Play file batch) before behind left old new told_old told_new =
    HasPlayed batch left old new × (told_new ≡ told_old)
IsDone H (Audit file made copy) before behind left old new told_old told_new =
    (behind ≡ before) × HasAudited made copy old new × (told_new ≡ told_old)
IsDone H (Serve file plan turns report gather events renumber patient) before behind left old new told_old told_new = (behind ≡ before)
    × HasServedWith turns report events old new told_new
IsDone H Key before behind left old new told_old told_new =
    (behind ≡ before) × HasKey old new × (told_new ≡ told_old)
IsDone H (Plan plan at device was) before behind left old new told_old told_new =
    (behind ≡ before) × HasShownPlan at (is_some device) (is_some was) None old new told_old told_new
IsDone H (Put folder lines destination limit wait) before behind left old new told_old told_new =
    HasPut H folder.now (put_form lines destination) (put_limit limit) left × (new ≡ old) × (told_new ≡ told_old)
IsDone H (Get folder lines raw count follow) before behind left old new told_old told_new = (behind ≡ before)
    × HasPrinted H folder.now (get_form lines raw) (unwrap_or count (2 ^ 64 - 1)) follow old new
    × (told_new ≡ told_old)
IsDone H (NetworkCheck names) before behind left old new told_old told_new =
    (behind ≡ before) × HasCheckedNetwork (map (λ s. s.now) names.now) true old new × (told_new ≡ told_old)
IsDone H (NetworkWrite file folder changed) before behind left old new told_old told_new =
    (behind ≡ before) × HasWrittenNetwork file.now folder.now changed old new × (told_new ≡ told_old)
IsDone H (NetworkDraw file) before behind left old new told_old told_new =
    (behind ≡ before) × HasDrawnNetwork file.now old new × (told_new ≡ told_old)

-- a command that may end while a wait isn't over
abbrev pub Waits : Settings → Type 0
Waits (Put folder lines destination limit wait) = ⊤
Waits _ = ⊥

-- the wait of a command is over
abbrev pub is_wait_over : ProgramFault → Bool
is_wait_over (Command fault) = false
is_wait_over (Folder fault) = is_over fault
is_wait_over (Network fault) = false
is_wait_over Disagreement = false

-- the values of a spool or of a device are out of their limits
abbrev pub IsOutOfLimits : Settings → Type 0
IsOutOfLimits (Sim params) = ¬ IsWithinLimits params
IsOutOfLimits (Format file params segments length force allocate) =
    ¬ IsLayout (wanted_geometry params segments length) (device_length (wanted_geometry params segments length))
IsOutOfLimits _ = ⊥
