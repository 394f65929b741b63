-- The model of one relay (docs/reference/DEFINITIONS.md, "The world of one relay").
use Rattle.std.specs.Prelude.{◌≡◌, ℕ, Bool, false, List, [], ◌∷◌, ◌++◌, Option, Some, None, length, drop, replicate}
use Rattle.std.specs.List.{flat_map}
use Rattle.rly_core.specs.declared.params.Params.{Params}
use Rattle.rly_disk.specs.Trace.{DeviceEvent, FailedRead, FailedSync, FailedWrite, Read, Sync, Write}
use Rattle.rly_disk.specs.Trace.{images_at_end, seen_at_end}
use Rattle.rly_machine.specs.declared.call.Answer.{Answer}
use Rattle.rly_machine.specs.declared.call.Call.{Call}
use Rattle.rly_machine.specs.Fold.{fold}
use Rattle.rly_machine.specs.State.{State, new_state}
use Rattle.rly_segment_checkpoint.specs.declared.stored.Stored.{Stored}
use Rattle.rly_journal.specs.Recovery.{Commands}

-- the unit that a seat (client handle) submits: 1 to 64 calls
abbrev pub Batch : Type 0
Batch = List Call

-- a seat: the number of calls that it has submitted, whether it waits for replies, those in its reply queue, and those
-- that it has received
pub record SeatView : Type 0 where
  pub asked : ℕ
  pub waits : Bool
  pub replies : List Answer
  pub known : List Answer

-- a device: the bytes at its last sync, and its calls since
pub record Device : Type 0 where
  pub synced : List ℕ
  pub since : List DeviceEvent

-- the bytes that a read returns
abbrev pub seen_of : Device → List ℕ
seen_of device = seen_at_end device.since device.synced

-- the images that a crash now may leave
abbrev pub IsImageOf : Device → List ℕ → Type 0
IsImageOf device = images_at_end device.since device.synced (λ image. image ≡ device.synced)

-- a device after a call, done or failed
abbrev pub asked_of : Device → DeviceEvent → Device
asked_of device Sync = record { synced = seen_of device; since = [] }
asked_of device (Read place count) = record device { since = device.since ++ Read place count ∷ [] }
asked_of device (FailedRead place count) = record device { since = device.since ++ FailedRead place count ∷ [] }
asked_of device (Write place bytes) = record device { since = device.since ++ Write place bytes ∷ [] }
asked_of device (FailedWrite place bytes left) =
    record device { since = device.since ++ FailedWrite place bytes left ∷ [] }
asked_of device FailedSync = record device { since = device.since ++ FailedSync ∷ [] }

-- the phases of a round: a segment is opened by closing its gate, writing a head after it with a copy of the state,
-- each payload inline or by device address, and opening the gate; the commands are appended by writing a body after the
-- next gate and opening that
pub data Phase : Type 0 where
  Seal : (segment : ℕ) (copy : State Stored) → Phase
  Head : (segment : ℕ) (copy : State Stored) → Phase
  Switch : (segment : ℕ) (copy : State Stored) → Phase
  Body : Phase
  Gate : Phase

-- the stage of a round: it takes batches, it is in a phase, a segment was opened for it, or it has its replies
pub data Stage : Type 0 where
  Taking : Stage
  Writing : (phase : Phase) → Stage
  Ready : Stage
  Answering : Stage

-- the current round: its stage, its batches without replies yet, the replies to these, and whether a read for it failed
pub record Round : Type 0 where
  pub stage : Stage
  pub batches : List Batch
  pub answers : List Answer
  pub read_failed : Bool

-- a relay: its parameters, its seats, the batches in its submission queue and the one kept for the next round, the
-- current round, its device, whether it is open and whether it is broken, the accepted commands, their number after the
-- last successful round, and the greatest position of any reply
pub record World : Type 0 where
  pub params : Params
  pub seats : List SeatView
  pub line : List Batch
  pub kept : Option Batch
  pub round : Option Round
  pub device : Device
  pub is_open : Bool
  pub is_broken : Bool
  pub accepted : Commands
  pub position : ℕ
  pub told : ℕ

abbrev pub new_seat : SeatView
new_seat = record { asked = 0; waits = false; replies = []; known = [] }

-- a relay that isn't opened yet, on a device with these bytes, with no write pending
abbrev pub new_world : Params → ℕ → List ℕ → World
new_world params seats bytes = record {
  params = params;
  seats = replicate seats new_seat;
  line = [];
  kept = None;
  round = None;
  device = record { synced = bytes; since = [] };
  is_open = false;
  is_broken = false;
  accepted = [];
  position = 0;
  told = 0;
}

-- true if a read for the current round failed
abbrev pub has_failed_read : Option Round → Bool
has_failed_read None = false
has_failed_read (Some round) = round.read_failed

-- the calls of batches, in order
abbrev pub calls_of : List Batch → List Call
calls_of batches = flat_map (λ batch. batch) batches

-- the batches of the current round
abbrev pub batches_in : Option Round → List Batch
batches_in None = []
batches_in (Some round) = round.batches

-- the state after commands of a new spool
abbrev pub state_from : Params → Commands → State (List ℕ)
state_from params commands = fold length (new_state params) commands

-- the accepted commands of the current round
abbrev pub round_commands : World → Commands
round_commands w = drop w.position w.accepted
