-- The warnings of a serving station: failed sends and reads, packets with a wrong tag, a clock that is set, folders that
-- fail or stop, and a receive buffer that is too small (docs/COMMANDS.md, "rly serve").
use Rattle.std.specs.Prelude.{◌≡◌, ℕ, ◌+◌, ◌-◌, ◌%◌, ◌/◌, ◌^◌, ◌==◌, min, ℤ, unsigned_abs}
use Rattle.std.specs.Prelude.{if◌then◌else◌, codes, replicate, slice_index_or}
use Rattle.std.specs.Prelude.{Bool, true, false, not, ◌||◌, List, [], ◌∷◌, ◌++◌, map, set, Option, Some, None}
use Rattle.std.specs.Fmt.{decimal}
use Rattle.std.specs.IoError.{raw_os_error}
use Rattle.std.specs.Option.{option_map}
use Rattle.std.specs.declared.io.Error.{Error}
use Rattle.rly_station.specs.declared.failed_calls.FailedCalls.{FailedCalls}
use Rattle.rly_station.specs.declared.logger.Logger.{Logger}
use Rattle.rly_station.specs.declared.folder_stop.FolderStop.{FolderStop}
use Rattle.rly_station.specs.declared.folder_stop.FolderStop.TheVariants as stop
use Rattle.rly_station.specs.declared.warning.SystemCall.{SystemCall}
use Rattle.rly_station.specs.declared.warning.SystemCall.TheVariants.{Folder, Read, Send}
use Rattle.rly_station.specs.declared.warning.ClockStep.{ClockStep}
use Rattle.rly_station.specs.declared.warning.ClockStep.TheVariants.{Forward, Back}
use Rattle.rly_station.specs.declared.warning.Warning.{Warning}
use Rattle.rly_station.specs.declared.warning.Warning.TheVariants.{ClockSet, FailedCall, ForeignName, Link, NoFile, SmallBuffer, Spool, WrongTag}
use Rattle.rly_station.specs.LinkCauses.{cause_text}
use Rattle.rly_station.specs.SpoolWarnings.{spool_text}
use Rattle.rly_link.specs.declared.turn.Worker.{Worker}
use Rattle.rly_link.specs.declared.turn.Worker.TheVariants as worker

-- the neighbour of a worker
abbrev pub name_text : Worker → List ℕ
name_text (worker.Receiver peer) = codes "peer " ++ decimal peer.0
name_text (worker.Sender hop) = codes "hop " ++ decimal hop.0

-- the owner of the failed calls, and the call
abbrev pub call_text : SystemCall → List ℕ
call_text (Send w) = name_text w ++ codes ": send failed"
call_text Read = codes "device: read failed"
call_text (Folder w) = name_text w ++ codes ": folder call failed"

-- how far the clock was set, in milliseconds
abbrev pub step_text : ClockStep → List ℕ
step_text (Forward by) = codes "the clock was set ahead by " ++ decimal (by / 1000) ++ codes " ms"
step_text (Back by) = codes "the clock was set back by " ++ decimal (by / 1000) ++ codes " ms"

-- why no file of a peer's folder is given
abbrev pub stop_text : FolderStop → List ℕ
stop_text (stop.Apart custody least greatest) =
    codes "sent has "
    ++ (decimal least ++ (codes " to " ++ (decimal greatest ++ (codes ", not from " ++ (decimal custody ++ codes ": mv -n sent/* new")))))
stop_text (stop.File number refusal) = codes "file " ++ (decimal number ++ (codes " of sent refused (" ++ (decimal refusal ++ codes ")")))
stop_text (stop.Question refusal) = codes "last number refused (" ++ decimal refusal ++ codes ")"

-- the line of a warning, without its newline; that of a failed call has the system's text, which no clause knows
abbrev pub warning_text : Warning → Option (List ℕ)
warning_text (FailedCall call count word) = None
warning_text (WrongTag w count) =
    Some (codes "rly: "
    ++ (name_text w ++ (codes ": wrong tag (" ++ (decimal count ++ codes " so far): the same key at both ends?"))))
warning_text (Link w cause count) = Some (codes "rly: " ++ name_text w ++ codes ": " ++ cause_text cause count)
warning_text (ClockSet step) = Some (codes "rly: " ++ step_text step)
warning_text (NoFile w stop) = Some (codes "rly: " ++ name_text w ++ codes ": " ++ stop_text stop)
warning_text (ForeignName w) = Some (codes "rly: " ++ name_text w ++ codes ": foreign name in the folder ignored")
warning_text (SmallBuffer wanted granted) =
    Some (codes "rly: receive buffer of "
    ++ (decimal granted ++ (codes " bytes: set net.core.rmem_max to " ++ decimal wanted)))
warning_text (Spool warning) = Some (codes "rly: " ++ spool_text warning)

-- the warnings logged, in order
abbrev pub logged_warnings : Logger → List Warning
logged_warnings teller = map (λ e. e.0) teller.told.items

-- a count that stays at the last value of 64 bits
abbrev pub next_count : ℕ → ℕ
next_count count = min (count + 1) (2 ^ 64 - 1)

-- the kind of a failed call: the system's error number, 255 for those above; 0 if the system gave none
abbrev pub kind_of_code : Option ℤ → ℕ
kind_of_code None = 0
kind_of_code (Some code) = min (unsigned_abs code) 255

abbrev pub kind_of : Error → ℕ
kind_of error = kind_of_code (raw_os_error error)

-- of the failed calls the first of each kind is logged, and every thousandth
abbrev pub is_call_logged : Bool → ℕ → Bool
is_call_logged is_known count = not is_known || (count % 1000 == 0)

-- the record of failed calls: their number, their kinds, and the warnings logged
pub record KnownFailures : Type 0 where
  pub call : SystemCall
  pub count : ℕ
  pub came : List Bool
  pub told : List Warning

abbrev pub known_of : FailedCalls → KnownFailures
known_of calls = record {
  call = calls.call;
  count = calls.count;
  came = calls.came;
  told = logged_warnings
      calls.teller;
}

-- none of them failed yet
abbrev pub none_yet : SystemCall → KnownFailures
none_yet call = record { call = call; count = 0; came = replicate 256 false; told = [] }

-- the failed reads of a device are logged, and none failed yet
abbrev pub AreReadsLogged : Option FailedCalls → Type 0
AreReadsLogged calls = option_map known_of calls ≡ Some (none_yet Read)

-- the warning logged for one
abbrev pub failure_warnings : FailedCalls → Error → List Warning
failure_warnings calls error =
    if is_call_logged (slice_index_or calls.came (kind_of error) false) (next_count calls.count)
    then FailedCall calls.call (next_count calls.count) (record { 0 = error }) ∷ [] else []

-- one more failed call was counted, and logged if due; its kind is recorded, and the earlier record is kept
pub record HasCounted (old new : FailedCalls) (error : Error) : Type 0 where
  pub call : new.call ≡ old.call
  pub count : new.count ≡ next_count old.count
  pub came : new.came ≡ set old.came (kind_of error) true
  pub told : logged_warnings new.teller ≡ logged_warnings old.teller ++ failure_warnings old error

-- the same of a link or a device whose failed calls are logged, if they are
abbrev pub HasCountedIf : Option FailedCalls → Option FailedCalls → Type 0
HasCountedIf None new = new ≡ None
HasCountedIf (Some old) None = ⊥
HasCountedIf (Some old) (Some new) = (error : Error) × HasCounted old new error
