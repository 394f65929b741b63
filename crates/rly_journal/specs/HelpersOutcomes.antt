-- Helpers: the outcomes of a round's calls before payloads are read, in a spool of device addresses and in one with
-- bytes. No public contract cites them; `Rounds` defines the replies of a round.
use Rattle.std.specs.Prelude.{◌≡◌, ◌⊎◌, ℕ, ◌-◌, ◌<◌, ◌≤◌, List, [], ◌∷◌, ◌++◌, length, true, IsTrue, Option, Ok}
use Rattle.std.specs.List.{zip}
use Rattle.rly_core.specs.declared.ids.HopId.{HopId}
use Rattle.rly_core.specs.declared.params.Geometry.{Geometry}
use Rattle.rly_core.specs.declared.refusal.Refusal.TheVariants.{OutOfMemory}
use Rattle.rly_machine.specs.declared.call.Answer.{Answer}
use Rattle.rly_machine.specs.declared.call.Call.{Call}
use Rattle.rly_machine.specs.declared.call.SeatId.{SeatId}
use Rattle.rly_machine.specs.declared.command.Ask.TheVariants as ask
use Rattle.rly_machine.specs.declared.command.Command.{Command}
use Rattle.rly_machine.specs.declared.command.Query.TheVariants.{Fetch}
use Rattle.rly_machine.specs.declared.hop.Item.{Item}
use Rattle.rly_machine.specs.declared.reply.Reply.{Reply}
use Rattle.rly_machine.specs.declared.reply.Reply.TheVariants.{Refused}
use Rattle.rly_machine.specs.Accepted.{is_accepted}
use Rattle.rly_machine.specs.Fold.{AllAccepted, fold}
use Rattle.rly_machine.specs.History.{Entry, IsAnswered, accepted_by, is_failure}
use Rattle.rly_machine.specs.Query.{item_of}
use Rattle.rly_machine.specs.State.{State}
use Rattle.rly_machine.specs.Step.{step}
use Rattle.rly_record.specs.Spelling.{HasRecord, IsShort}
use Rattle.rly_segment_checkpoint.specs.Stored.{stored_length}
use Rattle.rly_segment_checkpoint.specs.declared.stored.DeviceAddress.{DeviceAddress}
use Rattle.rly_segment_checkpoint.specs.declared.stored.Stored.{Stored}
use Rattle.rly_reclaim.specs.Room.{IsDue}
use Rattle.rly_segment.specs.Heads.{segment_place}
use Rattle.rly_journal_relocate.specs.Relocation.{LiesThere}
use Rattle.rly_journal_index.specs.IndexRelation.{IsAlike}
use Rattle.rly_journal_index.specs.Index.{IndexState, IsAt}
use Rattle.rly_journal.specs.Groups.{GroupState, Holds, record_place, with_record}
use Rattle.rly_journal.specs.GroupAddresses.{Commands, placed_at, placed_group}
use Rattle.rly_journal_fetch.specs.FetchReads.{stored_at_address}
use Rattle.rly_journal_fetch.specs.declared.outcome.Outcome.{Outcome}
use Rattle.rly_journal_fetch.specs.declared.outcome.Outcome.TheVariants.{Answered, Wanted}
use Rattle.rly_journal.specs.Rounds.{AreReadsOf, MayWantMemory, MayWantRoom}

-- ---- one command

-- a group under construction, with the spool's maximum payload length, for a gate in the current segment, which is
-- unused from the next record on and has room for the largest group; it may get one more command
pub record IsGrouping (gate : ℕ) (x : IndexState) (group : GroupState) : Type 0 where
  pub commands : Commands
  pub holds : Holds commands group
  pub few : length commands < 64
  pub longest : group.most ≡ x.geometry.params.payload
  pub above : segment_place x.geometry x.segment ≤ gate
  pub below : x.used ≤ record_place gate group
  pub ready : IsDue x.geometry (gate - segment_place x.geometry x.segment) → ⊥

-- the machine's reply to a command, or a failed allocation, if the command may need one
abbrev pub IsAnswerTo : Command (List ℕ) → Reply → State (List ℕ) → Type 0
IsAnswerTo command told t =
    (told ≡ (step length t command).1) ⊎ ((told ≡ Refused OutOfMemory) × MayWantRoom t command)

-- an accepted command: the index applied it, with its payload by device address, its record is in the group, and it is
-- in the log
pub record IsTaken (gate : ℕ) (command : Command (List ℕ)) (x y : IndexState) (old new : GroupState)
    (before after : Commands) : Type 0 where
  pub accepted : IsTrue (is_accepted (step stored_length x.spool.state (placed_at (record_place gate old) command)).1)
  pub state : y.spool.state ≡ (step stored_length x.spool.state (placed_at (record_place gate old) command)).0
  pub has : HasRecord command
  pub short : IsShort old.most command
  pub group : new ≡ with_record old command
  pub at : IsAt x.geometry x.segment (record_place gate new) y
  pub log : after ≡ before ++ command ∷ []

-- nothing changed
pub record IsLeft (x y : IndexState) (old new : GroupState) (before after : Commands) : Type 0 where
  pub state : y.spool.state ≡ x.spool.state
  pub group : new ≡ old
  pub at : IsAt x.geometry x.segment x.used y
  pub log : after ≡ before

-- ---- one call

-- the only failure in a reply is a failed allocation
abbrev pub OnlyMemory : Entry → Type 0
OnlyMemory entry = is_failure entry.1.reply ≡ true → entry.1.reply ≡ Refused OutOfMemory

-- the reply to a call that needs no read of the device
pub record IsKnown (call : Call) (answer : Answer) (t : State (List ℕ)) : Type 0 where
  pub answered : IsAnswered (λ reply. reply) 0 t (call, answer)
  pub only : OnlyMemory (call, answer)
  pub wanted : answer.reply ≡ Refused OutOfMemory → MayWantMemory t call.ask
  pub unread : AreReadsOf t call.ask answer.reply []

-- a call requests a payload in flight with its limit, and has its device address if it has bytes
pub record IsWanted (g : Geometry) (call : Call) (seat : SeatId) (number at limit : ℕ) (place : Option DeviceAddress)
    (s : State Stored) (t : State (List ℕ)) : Type 0 where
  pub same_seat : seat ≡ call.seat
  pub same_number : number ≡ call.number
  pub position : at ≡ t.seq
  pub hop : HopId
  pub custody : ℕ
  pub asks : call.ask ≡ ask.Query (Fetch hop custody)
  pub item : Item Stored
  pub found : item_of s hop custody ≡ Ok item
  pub same_limit : limit ≡ item.limit
  pub lies : stored_at_address place ≡ item.payload
  pub there : LiesThere g item.payload

-- the outcome of a call, in a spool of device addresses and in the one with bytes
abbrev pub IsOutcomeOf : Geometry → Call → Outcome → State Stored → State (List ℕ) → Type 0
IsOutcomeOf g call (Answered answer) s t = IsKnown call answer t
IsOutcomeOf g call (Wanted seat number at limit place) s t = IsWanted g call seat number at limit place s t

-- its command, if it was accepted
abbrev pub command_accepted : Call → Outcome → Commands
command_accepted call (Answered answer) = accepted_by call.ask answer.reply
command_accepted call (Wanted seat number at limit place) = []

-- it is in the group, or nothing changed
abbrev pub IsTakenOrLeft : ℕ → Call → Outcome → IndexState → IndexState → GroupState → GroupState → Commands → Commands
    → Type 0
IsTakenOrLeft gate call outcome x y old new before after =
    ((command : Command (List ℕ)) × (command_accepted call outcome ≡ command ∷ [])
    × IsTaken gate command x y old new before after)
    ⊎ ((command_accepted call outcome ≡ []) × IsLeft x y old new before after)

-- ---- all calls

-- the accepted commands, in order
abbrev pub taken_of : List (Call × Outcome) → Commands
taken_of [] = []
taken_of (x ∷ xs) = command_accepted x.0 x.1 ++ taken_of xs

-- the outcomes of calls in order, after some commands: each in the spools that the commands before it left
abbrev pub AreOutcomes : Geometry → ℕ → State Stored → State (List ℕ) → Commands → List (Call × Outcome) → Type 0
AreOutcomes g gate s t done [] = Unit {0}
AreOutcomes g gate s t done (x ∷ xs) =
    IsOutcomeOf g x.0 x.1 (fold stored_length s (placed_group gate done)) (fold length t done)
    × AreOutcomes g gate s t (done ++ command_accepted x.0 x.1) xs

-- calls were evaluated from an index: their accepted commands are those of the group for a gate, and those that the log
-- grew by, and the index applied them
pub record IsEvaluated (gate : ℕ) (old new : IndexState) (group : GroupState) (before after : Commands)
    (calls : List Call) (outcomes : List Outcome) : Type 0 where
  pub count : length outcomes ≡ length calls
  pub each : (t : State (List ℕ)) → IsAlike old.spool.state t
      → AreOutcomes old.geometry gate old.spool.state t [] (zip calls outcomes)
  pub holds : Holds (taken_of (zip calls outcomes)) group
  pub longest : group.most ≡ old.geometry.params.payload
  pub accepted : AllAccepted stored_length old.spool.state (placed_group gate (taken_of (zip calls outcomes)))
  pub state : new.spool.state ≡ fold stored_length old.spool.state (placed_group gate (taken_of (zip calls outcomes)))
  pub geometry : new.geometry ≡ old.geometry
  pub segment : new.segment ≡ old.segment
  pub used : ((taken_of (zip calls outcomes) ≡ []) × (new.used ≡ gate))
      ⊎ ((1 ≤ group.count) × (new.used ≡ record_place gate group))
  pub log : after ≡ before ++ taken_of (zip calls outcomes)
