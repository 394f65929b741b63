-- The events of a relay, in any order. An impossible event changes nothing.
use Rattle.std.specs.Prelude.{◌≡◌, ◌≢◌, ◌⊎◌, ◌+◌, ◌<◌, ℕ, max, nat_le, Bool, true, false, if◌then◌else◌}
use Rattle.std.specs.Prelude.{List, [], ◌∷◌, ◌++◌, Option, Some, None, length, map, take, drop, slice_index_or}
use Rattle.std.specs.Prelude.{slice_set}
use Rattle.std.specs.List.{AllByRecursion, zip}
use Rattle.rly_core.specs.Bounds.{IsIn}
use Rattle.rly_core.specs.declared.refusal.Refusal.TheVariants.{Broken, DeviceRead, OutOfMemory, Unsure}
use Rattle.rly_disk.specs.Trace.{DeviceEvent, FailedRead, FailedSync, FailedWrite, Read, Sync, Write}
use Rattle.rly_machine.specs.declared.call.Answer.{Answer}
use Rattle.rly_machine.specs.declared.call.Call.{Call}
use Rattle.rly_machine.specs.declared.command.Ask.{Ask}
use Rattle.rly_machine.specs.declared.reply.Reply.TheVariants.{Refused}
use Rattle.rly_machine.specs.History.{Legal, accepted_of, is_failure}
use Rattle.rly_machine.specs.State.{State}
use Rattle.rly_segment_checkpoint.specs.declared.stored.Stored.{Stored}
use Rattle.rly_journal.specs.Journal.{holds_command}
use Rattle.rly_journal.specs.Rounds.{AreLostWhereWanted, OnlyLost, refusals}
use Rattle.rly_journal.specs.Recovery.{Commands, IsRecovery, Recovery, Stands}
use Rattle.rly_world.specs.RelayPhases.{IsDueIn, IsNeeded, MayOpen, MaySync, MayWrite, bytes_of, place_of}
use Rattle.rly_world.specs.RelayWorld.{Answering, Batch, Body, Device, Gate, Head, IsImageOf, Phase, Ready, Round, Seal}
use Rattle.rly_world.specs.RelayWorld.{SeatView, Stage, Switch, Taking, World, Writing, asked_of, batches_in, calls_of}
use Rattle.rly_world.specs.RelayWorld.{has_failed_read, round_commands, new_seat, seen_of, state_from}

pub data Event : Type 0 where
  -- a seat (client handle) submits a batch of requests
  Put : (seat : ℕ) (asks : List Ask) → Event
  -- the committer takes a batch
  Takes : Event
  -- it begins to open a segment for its round, with a head of this state
  Opens : (segment : ℕ) (copy : State Stored) → Event
  -- it evaluates its round, with these replies
  Evaluates : (given : List Answer) → Event
  -- it makes a call of the device, done or failed
  Calls : (call : DeviceEvent) → Event
  -- it puts the replies to a batch into a reply queue
  Answers : Event
  -- a seat receives its replies
  Hears : (seat : ℕ) → Event
  -- a packet is sent or delivered
  Packet : Event
  -- the relay stops, and its device has this image
  Crash : (image : List ℕ) → Event
  -- it is opened, and recovers this state
  Opening : (s : State (List ℕ)) → Event
  -- an opening fails: at its sync; or at a later call or an allocation, which only such a device can need
  -- (`HasNewestHead`)
  FailedOpening : (synced : Bool) → Event

-- ---- seats

abbrev pub seat_at : World → ℕ → SeatView
seat_at w seat = slice_index_or w.seats seat new_seat

-- requests with a seat's next numbers
abbrev pub calls_from : ℕ → ℕ → List Ask → Batch
calls_from seat last [] = []
calls_from seat last (ask ∷ asks) =
    record { seat = record { 0 = seat }; number = last + 1; ask = ask } ∷ calls_from seat (last + 1) asks

-- the batch is the last in the submission queue, and its seat waits
abbrev pub world_after_put : World → ℕ → List Ask → World
world_after_put w seat asks = record w {
  line = w.line ++ calls_from seat (seat_at w seat).asked asks ∷ [];
  seats = slice_set w.seats seat (record (seat_at w seat) {
    asked = (seat_at w seat).asked + length asks;
    waits = true;
  });
}

-- a reply is in its seat's reply queue
abbrev pub seats_after_reply : List SeatView → Answer → List SeatView
seats_after_reply seats answer =
    let seat = slice_index_or seats answer.seat.0 new_seat in
    slice_set seats answer.seat.0 (record seat { replies = seat.replies ++ answer ∷ [] })

abbrev pub all_replied : List SeatView → List Answer → List SeatView
all_replied seats [] = seats
all_replied seats (answer ∷ answers) = all_replied (seats_after_reply seats answer) answers

-- a seat has received its replies, and may submit again
abbrev pub world_after_hearing : World → ℕ → World
world_after_hearing w seat = record w {
  seats = slice_set w.seats seat (record (seat_at w seat) {
    waits = false;
    replies = [];
    known = (seat_at w seat).known ++ (seat_at w seat).replies;
  });
}

-- ---- the committer

-- a batch joins the round, if the round then has at most 64 calls, and is else kept for the next one
abbrev pub world_after_join : World → Batch → World
world_after_join w batch =
    if nat_le (length (calls_of (batches_in w.round ++ batch ∷ []))) 64
    then record w {
      round = Some (record {
        stage = Taking;
        batches = batches_in w.round ++ batch ∷ [];
        answers = [];
        read_failed = has_failed_read w.round;
      });
    }
    else record w { kept = Some batch }

-- the kept batch comes first
abbrev pub world_after_take : World → Option Batch → List Batch → World
world_after_take w (Some batch) line = world_after_join (record w { kept = None }) batch
world_after_take w None (batch ∷ line) = world_after_join (record w { line = line }) batch
world_after_take w None [] = w

abbrev pub round_at_stage : Stage → Option Round → Option Round
round_at_stage stage None = None
round_at_stage stage (Some round) = Some (record round { stage = stage })

-- these replies are ready
abbrev pub round_with_answers : Stage → List Answer → Option Round → Option Round
round_with_answers stage answers None = None
round_with_answers stage answers (Some round) = Some (record round { stage = stage; answers = answers })

-- accepted commands are written, and the round gets its replies after that
abbrev pub after_evaluation : Commands → Stage
after_evaluation [] = Answering
after_evaluation (command ∷ commands) = Writing Body

abbrev pub world_after_evaluation : World → List Answer → Commands → World
world_after_evaluation w given commands = record w {
  round = round_with_answers (after_evaluation commands) given w.round;
  accepted = w.accepted ++ commands;
}

-- the stage after a phase
abbrev pub after_phase : Phase → Stage
after_phase (Seal segment copy) = Writing (Head segment copy)
after_phase (Head segment copy) = Writing (Switch segment copy)
after_phase (Switch segment copy) = Ready
after_phase Body = Writing Gate
after_phase Gate = Answering

-- the commands of a round count as durable after its last phase
abbrev pub counted_after : Phase → World → ℕ
counted_after (Seal segment copy) w = w.position
counted_after (Head segment copy) w = w.position
counted_after (Switch segment copy) w = w.position
counted_after Body w = w.position
counted_after Gate w = length w.accepted

-- a phase is over
abbrev pub synced_at : World → Stage → World
synced_at w (Writing phase) =
    record w { round = round_at_stage (after_phase phase) w.round; position = counted_after phase w }
synced_at w Taking = w
synced_at w Ready = w
synced_at w Answering = w

abbrev pub synced_in : World → Option Round → World
synced_in w None = w
synced_in w (Some round) = synced_at w round.stage

-- a write or a sync failed: the reply to each call of the round is Unsure, and the relay is broken
abbrev pub world_after_failure : World → World
world_after_failure w = record w {
  round = round_with_answers Answering (refusals Unsure w.position (calls_of (batches_in w.round))) w.round;
  is_broken = true;
}

abbrev pub on_device : World → DeviceEvent → World
on_device w call = record w { device = asked_of w.device call }

-- a read for the current round failed
abbrev pub round_after_failed_read : Option Round → Option Round
round_after_failed_read None = None
round_after_failed_read (Some round) = Some (record round { read_failed = true })

abbrev pub world_after_call : World → DeviceEvent → World
world_after_call w (Read place count) = on_device w (Read place count)
world_after_call w
    (FailedRead place count) = record (on_device w (FailedRead place count)) { round = round_after_failed_read w.round }
world_after_call w (Write place bytes) = on_device w (Write place bytes)
world_after_call w (FailedWrite place bytes left) = world_after_failure (on_device w (FailedWrite place bytes left))
world_after_call w Sync = synced_in (on_device w Sync) w.round
world_after_call w FailedSync = world_after_failure (on_device w FailedSync)

-- the greatest position in replies, except those that acknowledge nothing
abbrev pub greatest_position : ℕ → List Answer → ℕ
greatest_position told [] = told
greatest_position told (answer ∷ answers) =
    greatest_position (if is_failure answer.reply then told else max told answer.position) answers

-- the first replies of a round are given; the round is over after the last one
abbrev pub rest_of : Round → List Batch → ℕ → Option Round
rest_of round [] count = None
rest_of round (batch ∷ batches) count =
    Some (record round { batches = batch ∷ batches; answers = drop count round.answers })

abbrev pub answered_first : World → Round → List Batch → World
answered_first w round [] = w
answered_first w round (batch ∷ batches) = record w {
  seats = all_replied w.seats (take (length batch) round.answers);
  round = rest_of round batches (length batch);
  told = greatest_position w.told (take (length batch) round.answers);
}

abbrev pub answer_put : World → Option Round → World
answer_put w None = w
answer_put w (Some round) = answered_first w round round.batches

-- ---- crashes and openings

-- the submission queue, the round, the replies and the seats' knowledge are lost
abbrev pub world_after_stop : World → Device → World
world_after_stop w device = record w {
  seats = map (λ seat. new_seat) w.seats;
  line = [];
  kept = None;
  round = None;
  device = device;
  is_open = false;
  is_broken = false;
}

-- the accepted commands that the recovered state has
abbrev pub world_after_opening : World → State (List ℕ) → World
world_after_opening w s = record (world_after_stop w (asked_of w.device Sync)) {
  is_open = true;
  accepted = take s.seq w.accepted;
  position = s.seq;
}

-- ---- possible events

-- the current round has this property
abbrev pub InRound : World → (Round → Type 0) → Type 0
InRound w Is = (round : Round) × (w.round ≡ Some round) × Is round

-- the current round is in a phase with this property
abbrev pub InPhase : World → (Phase → Type 0) → Type 0
InPhase w Is = InRound w (λ round. (phase : Phase) × (round.stage ≡ Writing phase) × Is phase)

-- a batch is taken if none is kept; a kept one comes first
abbrev pub MayTake : Option Batch → List Batch → Option Round → Type 0
MayTake (Some batch) line None = Unit {0}
MayTake (Some batch) line (Some round) = ⊥
MayTake None [] round = ⊥
MayTake None (batch ∷ line) None = Unit {0}
MayTake None (batch ∷ line) (Some round) = round.stage ≡ Taking

-- a segment has to be opened before these calls are evaluated
abbrev pub IsDueFor : World → List Call → Type 0
IsDueFor w calls = (holds_command calls ≡ true) × IsDueIn w.device.synced

-- no segment is due: the replies are the machine's, in order, except failures: an allocation or a read that the request
-- may need
pub record AreAnswered (w : World) (calls : List Call) (given : List Answer) : Type 0 where
  pub not_due : IsDueFor w calls → ⊥
  pub count : length given ≡ length calls
  pub legal : Legal (state_from w.params w.accepted) (zip calls given)
  pub only : AllByRecursion OnlyLost (zip calls given)
  pub wanted : AreLostWhereWanted (state_from w.params w.accepted) (zip calls given)

-- a segment is due but isn't opened: all of them are refused, for a failed allocation or a failed read
abbrev pub AreShut : World → List Call → List Answer → Type 0
AreShut w calls given =
    IsDueFor w calls
    × ((given ≡ refusals OutOfMemory w.position calls) ⊎ (given ≡ refusals DeviceRead w.position calls))

abbrev pub AreEvaluated : World → List Call → List Answer → Type 0
AreEvaluated w calls given = AreAnswered w calls given ⊎ AreShut w calls given

abbrev pub IsEvaluated : Bool → World → List Call → List Answer → Type 0
IsEvaluated true w calls given = given ≡ refusals Broken w.position calls
IsEvaluated false w calls given = AreEvaluated w calls given

-- a reply reports a failed read only if a read for its round failed
abbrev pub AreRead : Round → Type 0
AreRead round = AllByRecursion (λ answer. answer.reply ≡ Refused DeviceRead → round.read_failed ≡ true) round.answers

-- reads may be made in any round; in a phase, writes in its range, and a sync after it is done
abbrev pub MayCall : World → DeviceEvent → Type 0
MayCall w (Read place count) = InRound w (λ round. Unit {0})
MayCall w (FailedRead place count) = InRound w (λ round. Unit {0})
MayCall w (Write place bytes) = InPhase w (λ phase. MayWrite phase w.device (round_commands w) place (length bytes))
MayCall w (FailedWrite place bytes left) =
    InPhase w (λ phase. MayWrite phase w.device (round_commands w) place (length bytes))
MayCall w Sync = InPhase w (λ phase. MaySync phase w.device (round_commands w))
MayCall w FailedSync = InPhase w (λ phase. MaySync phase w.device (round_commands w))

abbrev pub HasPlace : World → Event → Type 0
HasPlace w (Put seat asks) = (seat < length w.seats) × ((seat_at w seat).waits ≡ false) × IsIn 1 64 (length asks)
HasPlace w Takes = (w.is_open ≡ true) × MayTake w.kept w.line w.round
HasPlace w (Opens segment copy) = (w.is_broken ≡ false) × MayOpen w.device.synced segment copy
    × InRound w (λ round. (round.stage ≡ Taking) × IsDueFor w (calls_of round.batches))
HasPlace w (Evaluates given) = InRound w (λ round.
    ((round.stage ≡ Taking) ⊎ (round.stage ≡ Ready)) × IsEvaluated w.is_broken w (calls_of round.batches) given)
HasPlace w (Calls call) = MayCall w call
HasPlace w Answers = InRound w (λ round. (round.stage ≡ Answering) × AreRead round)
HasPlace w (Hears seat) = (seat < length w.seats) × ((seat_at w seat).replies ≢ [])
HasPlace w Packet = Unit {0}
HasPlace w (Crash image) = IsImageOf w.device image
HasPlace w (Opening s) = (w.round ≡ None) × Stands (seen_of w.device) s
HasPlace w (FailedOpening synced) = w.round ≡ None

-- ---- the effect of an event

abbrev pub world_after : World → Event → World
world_after w (Put seat asks) = world_after_put w seat asks
world_after w Takes = world_after_take w w.kept w.line
world_after w (Opens segment copy) = record w { round = round_at_stage (Writing (Seal segment copy)) w.round }
world_after w (Evaluates given) = world_after_evaluation w given
    (accepted_of (zip (calls_of (batches_in w.round)) given))
world_after w (Calls call) = world_after_call w call
world_after w Answers = answer_put w w.round
world_after w (Hears seat) = world_after_hearing w seat
world_after w Packet = w
world_after w (Crash image) = world_after_stop w (record { synced = image; since = [] })
world_after w (Opening s) = world_after_opening w s
world_after w (FailedOpening synced) = world_after_stop w (asked_of w.device (if synced then Sync else FailedSync))

-- an event leads from one world to another
abbrev pub Happens : World → Event → World → Type 0
Happens old event new =
    (HasPlace old event × (new ≡ world_after old event)) ⊎ ((HasPlace old event → ⊥) × (new ≡ old))

-- and a list of events, in order
abbrev pub Run : World → List Event → World → Type 0
Run old [] new = new ≡ old
Run old (event ∷ events) new = (mid : World) × Happens old event mid × Run mid events new

-- a relay in a phase is never stuck: the phase's own bytes may be written, and then it may be synced; if a gate is
-- closed already, it may be synced at once
pub record GoesOn (w : World) (phase : Phase) : Type 0 where
  pub x : Recovery
  pub stands : IsRecovery w.device.synced x
  pub write : IsNeeded phase x (seen_of w.device)
      → MayCall w (Write (place_of phase x) (bytes_of phase x (round_commands w)))
  pub then_sync : IsNeeded phase x (seen_of w.device)
      → MayCall (world_after_call w (Write (place_of phase x) (bytes_of phase x (round_commands w)))) Sync
  pub sync : (IsNeeded phase x (seen_of w.device) → ⊥) → MayCall w Sync
