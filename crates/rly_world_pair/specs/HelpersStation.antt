-- Helpers: the effect of one call on a journal, and the relation of a journal's state to that of an end. No public
-- contract cites them; `PairSteps` defines the steps.
use Rattle.std.specs.Prelude.{◌≡◌, ◌⊎◌, ◌<◌, ◌≤◌, ℕ, max, ◌||◌, ◌==◌, Bool, true, false, if◌then◌else◌}
use Rattle.std.specs.Prelude.{Option, Some, None}
use Rattle.std.specs.Prelude.{List, [], ◌∷◌, length, take}
use Rattle.std.specs.List.{AllByRecursion}
use Rattle.rly_core.specs.declared.params.Params.{Params}
use Rattle.rly_core.specs.declared.refusal.Refusal.TheVariants as refusal
use Rattle.rly_disk.specs.DiskModel.{DiskState, Settled}
use Rattle.rly_disk.specs.FaultDisk.{fault_state}
use Rattle.rly_disk.specs.MemDisk.{mem_state}
use Rattle.rly_disk.specs.declared.fault_disk.FaultDisk.{FaultDisk}
use Rattle.rly_disk.specs.declared.mem.MemDisk.{MemDisk}
use Rattle.rly_hop.specs.declared.message.Message.{Message}
use Rattle.rly_journal.specs.Journal.{JournalState}
use Rattle.rly_journal.specs.Recovery.{Stands}
use Rattle.rly_machine.specs.declared.command.Ask.{Ask}
use Rattle.rly_machine.specs.declared.command.Ask.TheVariants as ask
use Rattle.rly_machine.specs.declared.command.Command.{Command}
use Rattle.rly_machine.specs.declared.reply.Reply.{Reply}
use Rattle.rly_machine.specs.declared.reply.Reply.TheVariants.{Refused}
use Rattle.rly_machine.specs.Accepted.{is_accepted}
use Rattle.rly_machine.specs.Ask.{ask_step}
use Rattle.rly_machine.specs.Fold.{AllAccepted, fold}
use Rattle.rly_machine.specs.History.{harm, is_failure}
use Rattle.rly_machine.specs.State.{State, new_state}
use Rattle.rly_machine.specs.Step.{step}
use Rattle.rly_world.specs.PairEnd.{Replied, may_want}
use Rattle.rly_world_pair.specs.declared.spool.Spool.{Spool}
use Rattle.rly_world_pair.specs.declared.spool.Spool.TheVariants.{Open, Shut}
use Rattle.rly_world_pair.specs.declared.station.Harm.{Harm}
use Rattle.rly_world_pair.specs.declared.station.Harm.TheVariants.{Whole, Failed, Broken}

-- an allocation or a read failed
abbrev pub IsLost : Reply → Type 0
IsLost reply = (reply ≡ Refused refusal.OutOfMemory) ⊎ (reply ≡ Refused refusal.DeviceRead)

-- a working journal made a call: the reply is the machine's; or, if it may need an allocation, that or a read failed
pub record Serves {D : Type 0} (old new : JournalState D) (an : Ask) (reply : Reply) : Type 0 where
  pub working : old.broken ≡ false
  pub works : new.broken ≡ false
  pub goes : ((is_failure reply ≡ false) × (reply ≡ (ask_step old.state an).1)
      × (new.state ≡ (ask_step old.state an).0))
      ⊎ (IsLost reply × (new.state ≡ old.state) × (may_want old.state an ≡ true))

-- its device failed: the call is applied or not
pub record Gives {D : Type 0} (state : D → DiskState) (old new : JournalState D) (an : Ask) (reply : Reply)
    : Type 0 where
  pub working : old.broken ≡ false
  pub broken : new.broken ≡ true
  pub reply_is : reply ≡ Refused refusal.Unsure
  pub leaves : (image : List ℕ) → (state new.disk).images image
      → Stands image old.state ⊎ Stands image (ask_step old.state an).0

-- it was broken before
pub record Rests {D : Type 0} (old new : JournalState D) (reply : Reply) : Type 0 where
  pub broken : old.broken ≡ true
  pub reply_is : reply ≡ Refused refusal.Broken
  pub same : new ≡ old

-- a call of a journal on an honest disk
abbrev pub IsCalled : {D : Type 0} → (D → DiskState) → JournalState D → JournalState D → Ask → Reply → Type 0
IsCalled state old new an reply = Serves old new an reply ⊎ Gives state old new an reply ⊎ Rests old new reply

-- a call of an end's journal, or of none
abbrev pub IsSpoolCalled : Option Spool → Option Spool → Ask → Reply → Type 0
IsSpoolCalled None new an reply = (new ≡ None) × (reply ≡ Refused refusal.Broken)
IsSpoolCalled (Some (Shut disk)) new an reply = (new ≡ Some (Shut disk)) × (reply ≡ Refused refusal.Broken)
IsSpoolCalled (Some (Open old)) new an reply =
    (j : JournalState (FaultDisk MemDisk)) × (new ≡ Some (Open j)) × IsCalled (fault_state mem_state) old j an reply

-- ---- the state of a journal is that of an end

abbrev pub Commands : Type 0
Commands = List (Command (List ℕ))

-- the commands up to the first that the machine doesn't accept
abbrev pub accepted_prefix : State (List ℕ) → Commands → Commands
accepted_prefix s [] = []
accepted_prefix s (command ∷ commands) =
    if is_accepted (step length s command).1 then command ∷ accepted_prefix (step length s command).0 commands else []

-- the same from a new spool
abbrev pub accepted_in : Params → Commands → Commands
accepted_in params commands = accepted_prefix (new_state params) commands

-- the state after a new spool accepted this many of them
abbrev pub state_at : Params → Commands → ℕ → State (List ℕ)
state_at params commands kept = fold length (new_state params) (take kept (accepted_in params commands))

-- the request in an option
abbrev pub asks_of : Option Ask → List Ask
asks_of None = []
asks_of (Some an) = an ∷ []

-- the message in an option
abbrev pub messages_of : Option (Message (List ℕ)) → List (Message (List ℕ))
messages_of None = []
messages_of (Some m) = m ∷ []

-- the command of a request, if it is one
abbrev pub command_of : Ask → Commands
command_of (ask.Command command) = command ∷ []
command_of (ask.Query query) = []

-- the command of a request that is recorded: if it was accepted, or if the device failed
abbrev pub commands_kept : Ask → Reply → Commands
commands_kept an reply = if is_accepted reply || (harm reply == 1) then command_of an else []

-- the number of commands that a reply acknowledges, by the number recorded: none if it is a failure
abbrev pub reported_count : Commands → Reply → ℕ
reported_count commands reply = if is_failure reply then 0 else length commands

-- the number of acknowledged commands after a reply, or without one
abbrev pub reported_after : ℕ → Bool → Reply → ℕ → ℕ
reported_after told is_answered reply position =
    if is_answered then (if is_failure reply then told else max told position) else told

-- a crash with this image leaves a prefix of the accepted commands, with all acknowledged ones
pub record Leaves (params : Params) (commands : Commands) (due : ℕ) (image : List ℕ) : Type 0 where
  pub kept : ℕ
  pub has_due : due ≤ kept
  pub is_prefix : kept ≤ length (accepted_in params commands)
  pub stands : Stands image (state_at params commands kept)

-- a working journal has the state after all commands, each of them accepted
pub record Works {D : Type 0} (params : Params) (commands : Commands) (harmed : ℕ) (j : JournalState D) : Type 0 where
  pub working : j.broken ≡ false
  pub unharmed : harmed ≡ 0
  pub accepted : AllAccepted length (new_state params) commands
  pub state : j.state ≡ fold length (new_state params) commands

-- the device failed in the last call or before it
abbrev pub IsHarmed : ℕ → Type 0
IsHarmed harmed = (0 < harmed) × (harmed ≤ 2)

-- an end whose device failed or didn't open keeps the acknowledged commands
pub record Stopped (params : Params) (commands : Commands) (due harmed : ℕ) (disk : DiskState) : Type 0 where
  pub harmed_so : IsHarmed harmed
  pub leaves : (image : List ℕ) → disk.images image → Leaves params commands due image

abbrev pub IsSpool : Params → Commands → ℕ → ℕ → Option Spool → Type 0
IsSpool params commands due harmed None = IsHarmed harmed
IsSpool params commands due harmed (Some (Shut disk)) = Stopped params commands due harmed (fault_state mem_state disk)
IsSpool params commands due harmed (Some (Open j)) =
    Works params commands harmed j
    ⊎ ((j.broken ≡ true) × Stopped params commands due harmed (fault_state mem_state j.disk))

-- this many accepted commands are durable
pub record IsSafe (params : Params) (commands : Commands) (due harmed : ℕ) (spool : Option Spool) : Type 0 where
  pub within : due ≤ length (accepted_in params commands)
  pub held : IsSpool params commands due harmed spool

-- the acknowledged commands are durable, and so are those that a waiting reply will acknowledge
pub record IsSoundStation (params : Params) (commands : Commands) (told harmed : ℕ) (replied : List Replied)
    (spool : Option Spool) : Type 0 where
  pub due : ℕ
  pub has_told : told ≤ due
  pub has_replied : AllByRecursion (λ made. made.position ≤ due) replied
  pub safe : IsSafe params commands due harmed spool

-- the device of a spool
abbrev pub disk_of : Spool → FaultDisk MemDisk
disk_of (Open j) = j.disk
disk_of (Shut disk) = disk

-- the state of a working journal is durable on its device
abbrev pub IsDurableSpool : Spool → Type 0
IsDurableSpool (Open j) =
    j.broken ≡ false → Settled (fault_state mem_state j.disk) × Stands (fault_state mem_state j.disk).seen j.state
IsDurableSpool (Shut disk) = Unit {0}

-- a device with this image, and no write pending, was opened, or its opening failed
abbrev pub IsReopened : List ℕ → Spool → Type 0
IsReopened image (Open j) = (j.broken ≡ false) × Stands image j.state × (j.position ≡ j.state.seq)
IsReopened image (Shut disk) = (c : List ℕ) → (fault_state mem_state disk).images c → c ≡ image

-- the commands that remain after an opening, and the device's state
abbrev pub cut_by : Spool → Commands → Commands
cut_by (Open j) commands = take j.position commands
cut_by (Shut disk) commands = commands

abbrev pub harm_left : Spool → ℕ
harm_left (Open j) = 0
harm_left (Shut disk) = 2

-- the spool of an end whose device is new
abbrev pub IsNewSpool : Params → Spool → Type 0
IsNewSpool params (Open j) = (j.broken ≡ false) × (j.state ≡ new_state params)
IsNewSpool params (Shut disk) = ⊥

-- the number of the device's state
abbrev pub harm_number : Harm → ℕ
harm_number Whole = 0
harm_number Failed = 1
harm_number Broken = 2
