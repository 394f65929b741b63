-- The log of what stops a folder that plays a neighbour (docs/COMMANDS.md, "rly serve").
use Rattle.std.specs.Prelude.{◌≡◌, ℕ, max, nat_lt, ◌&&◌, ◌||◌, not, Bool, true, false, is_some, if◌then◌else◌, List, [], ◌∷◌, ◌++◌, Option, None, Some}
use Rattle.std.specs.declared.io.Error.{Error}
use Rattle.rly_folder_file.specs.FileFolder.{file_state}
use Rattle.rly_folder_file.specs.declared.file_folder.FileFolder.{FileFolder}
use Rattle.rly_link.specs.declared.turn.Worker.{Worker}
use Rattle.rly_link_folder.specs.PeerNeighbour.{is_for_good}
use Rattle.rly_link_folder.specs.declared.phase.Phase.{Phase}
use Rattle.rly_link_folder.specs.declared.phase.Phase.TheVariants as phase
use Rattle.rly_posts.specs.declared.folder_log.FolderLog.{FolderLog}
use Rattle.rly_station.specs.Warnings.{HasCounted, KnownFailures, known_of, logged_warnings, none_yet}
use Rattle.rly_station.specs.declared.failed_calls.FailedCalls.{FailedCalls}
use Rattle.rly_station.specs.declared.folder_stop.FolderStop.{FolderStop}
use Rattle.rly_station.specs.declared.folder_stop.FolderStop.TheVariants as stop
use Rattle.rly_station.specs.declared.warning.SystemCall.TheVariants as call
use Rattle.rly_station.specs.declared.warning.Warning.{Warning}
use Rattle.rly_station.specs.declared.warning.Warning.TheVariants.{ForeignName, NoFile}

-- what a log knows: its worker, the failed calls that were logged, their number, whether a foreign name was logged, whether
-- it was logged that no file is given, and the warnings beside those of failed calls
pub record LogView : Type 0 where
  pub worker : Worker
  pub failed_calls : KnownFailures
  pub failures : ℕ
  pub is_foreign : Bool
  pub is_stopped : Bool
  pub told : List Warning

abbrev pub log_view : FolderLog → LogView
log_view log = record {
  worker = log.worker;
  failed_calls = known_of log.failed_calls;
  failures = log.failures;
  is_foreign = log.is_foreign;
  is_stopped = log.is_stopped;
  told = logged_warnings log.teller;
}

abbrev pub new_log : Worker → LogView
new_log w = record {
  worker = w;
  failed_calls = none_yet (call.Folder w);
  failures = 0;
  is_foreign = false;
  is_stopped = false;
  told = [];
}

-- why no file is given, if none is until the station starts anew or a Custody comes
abbrev pub stop_if : Bool → FolderStop → Option FolderStop
stop_if true stop = Some stop
stop_if false stop = None

abbrev pub stop_of : Phase → Option FolderStop
stop_of phase.Failed = None
stop_of phase.Asking = None
stop_of phase.Asked = None
stop_of phase.Serving = None
stop_of (phase.QuestionRefused refusal) = stop_if (is_for_good refusal) (stop.Question refusal)
stop_of (phase.Apart custody least greatest) = Some (stop.Apart custody least greatest)
stop_of (phase.Refused number refusal) = stop_if (is_for_good refusal) (stop.File number refusal)

-- it is logged when it begins
abbrev pub stop_warnings : Worker → (was_stopped : Bool) → Option FolderStop → List Warning
stop_warnings w true stop = []
stop_warnings w false None = []
stop_warnings w false (Some stop) = NoFile w stop ∷ []

-- the neighbour that the folder plays was seen in a state
pub record HasNotedPhase (phase : Phase) (old new : FolderLog) : Type 0 where
  pub rest : new ≡ record old { is_stopped = is_some (stop_of phase); teller = new.teller }
  pub told : logged_warnings new.teller
      ≡ logged_warnings old.teller ++ stop_warnings old.worker old.is_stopped (stop_of phase)

-- calls of the folder were made: of those that failed since the last look one is counted, and logged if due
abbrev pub CountsIf : Bool → FailedCalls → FailedCalls → Type 0
CountsIf true old new = (error : Error) × HasCounted old new error
CountsIf false old new = new ≡ old

-- the first foreign name is logged
abbrev pub foreign_warnings : Worker → (was is : Bool) → List Warning
foreign_warnings w was is = if is && not was then ForeignName w ∷ [] else []

abbrev pub has_foreign : {H : Type 0} → FileFolder H → Bool
has_foreign folder = is_some folder.foreign.first

pub record HasNotedCalls {H : Type 0} (folder : FileFolder H) (old new : FolderLog) : Type 0 where
  pub worker : new.worker ≡ old.worker
  pub is_stopped : new.is_stopped ≡ old.is_stopped
  pub counts : CountsIf (nat_lt old.failures (file_state folder).failures) old.failed_calls new.failed_calls
  pub failures : new.failures ≡ max old.failures (file_state folder).failures
  pub is_foreign : new.is_foreign ≡ (old.is_foreign || has_foreign folder)
  pub told : logged_warnings new.teller
      ≡ logged_warnings old.teller ++ foreign_warnings old.worker old.is_foreign (has_foreign folder)
