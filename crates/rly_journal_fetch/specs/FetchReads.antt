-- The replies to the calls of a round that request payloads on the device (docs/reference/DEFINITIONS.md, "Fetching").
use Rattle.std.specs.Prelude.{◌≡◌, ℕ, ◌+◌, ◌≤◌, true, false, List, [], ◌∷◌, length, Option, Some, None, Result, Ok, Err}
use Rattle.std.specs.List.{AllByRecursion, flat_map, zip}
use Rattle.rly_core.specs.declared.refusal.Refusal.{Refusal}
use Rattle.rly_core.specs.declared.refusal.Refusal.TheVariants.{DeviceRead, OutOfMemory}
use Rattle.rly_disk.specs.DiskModel.{DiskState}
use Rattle.rly_disk.specs.Trace.{DeviceEvent, Read}
use Rattle.rly_machine.specs.declared.call.Answer.{Answer}
use Rattle.rly_machine.specs.declared.reply.Reply.{Reply}
use Rattle.rly_machine.specs.declared.reply.Reply.TheVariants.{Bytes, Refused}
use Rattle.rly_segment_checkpoint.specs.Stored.{payload_in, stored_length}
use Rattle.rly_segment_checkpoint.specs.declared.stored.DeviceAddress.{DeviceAddress}
use Rattle.rly_segment_checkpoint.specs.declared.stored.Stored.{Stored}
use Rattle.rly_segment_checkpoint.specs.declared.stored.Stored.TheVariants.{Inline, Placed}
use Rattle.rly_disk.specs.Trials.{Try, row_of}
use Rattle.rly_journal_fetch.specs.declared.outcome.Outcome.{Outcome}
use Rattle.rly_journal_fetch.specs.declared.outcome.Outcome.TheVariants.{Answered, Wanted}

-- the payload at a device address, or the empty payload, which has none
abbrev pub stored_at_address : Option DeviceAddress → Stored
stored_at_address None = Inline []
stored_at_address (Some place) = Placed place

-- a payload is on the device, if it has bytes
abbrev pub IsLean : Stored → Type 0
IsLean (Inline payload) = length payload ≡ 0
IsLean (Placed place) = Unit {0}

-- a device address lies on a device of this size
abbrev pub IsThere : ℕ → Option DeviceAddress → Type 0
IsThere size None = Unit {0}
IsThere size (Some place) = place.start + place.length ≤ size

-- the reply with a payload that was read and its limit, or with the refusal
abbrev pub reply_of : ℕ → Result (List ℕ) Refusal → Reply
reply_of limit (Ok payload) = Bytes payload limit
reply_of limit (Err refusal) = Refused refusal

-- the reply to a Fetch: its limit and as many bytes as its payload has, on an honest disk those that lie there; or 13
-- or 14, if it has bytes
abbrev pub IsFetched : DiskState → Option DeviceAddress → ℕ → Reply → Type 0
IsFetched disk at limit (Bytes payload told) =
    (length payload ≡ stored_length (stored_at_address at))
    × (disk.honest → payload ≡ payload_in disk.seen (stored_at_address at))
    × (told ≡ limit)
IsFetched disk at limit (Refused DeviceRead) = (place : DeviceAddress) × (at ≡ Some place)
IsFetched disk at limit (Refused OutOfMemory) = 1 ≤ stored_length (stored_at_address at)
IsFetched disk at limit _ = ⊥

-- the read of a payload; one without bytes isn't read
abbrev pub payload_reads : Option DeviceAddress → List DeviceEvent
payload_reads None = []
payload_reads (Some place) = Read place.start place.length ∷ []

-- the device calls for a reply: 13 means that the read failed, and 14 that no read was made
abbrev pub row_for : Option DeviceAddress → Reply → Try
row_for at (Refused DeviceRead) = row_of (payload_reads at) false
row_for at (Refused OutOfMemory) = row_of [] true
row_for at _ = row_of (payload_reads at) true

-- the reply to a call with this outcome: the complete one, or one with the requested payload and its limit
abbrev pub IsAnswerOf : DiskState → Outcome → Answer → Type 0
IsAnswerOf disk (Answered known) answer = answer ≡ known
IsAnswerOf disk (Wanted seat number position limit place) answer =
    (answer.seat ≡ seat) × (answer.number ≡ number) × (answer.position ≡ position)
    × IsFetched disk place limit answer.reply

abbrev pub rows_for : Outcome → Answer → List Try
rows_for (Answered known) answer = []
rows_for (Wanted seat number position limit place) answer = row_for place answer.reply ∷ []

-- the replies to calls in order, each for its outcome
pub record AreAnswersOf (disk : DiskState) (outcomes : List Outcome) (given : List Answer) : Type 0 where
  pub count : length given ≡ length outcomes
  pub each : AllByRecursion (λ x. IsAnswerOf disk x.0 x.1) (zip outcomes given)

-- the payloads are read in the order of the calls, whether or not earlier reads failed
abbrev pub fetch_tries : List Outcome → List Answer → List Try
fetch_tries outcomes given = flat_map (λ x. rows_for x.0 x.1) (zip outcomes given)

-- the device address of a call's payload, if it requests one, lies on a device of this size
abbrev pub IsThereFor : ℕ → Outcome → Type 0
IsThereFor size (Answered known) = Unit {0}
IsThereFor size (Wanted seat number position limit place) = IsThere size place

-- the reply that refuses a call with this outcome
abbrev pub refused_as : Refusal → ℕ → Outcome → Answer
refused_as refusal position (Answered known) =
    record { seat = known.seat; number = known.number; reply = Refused refusal; position = position }
refused_as refusal position (Wanted seat number at limit place) =
    record { seat = seat; number = number; reply = Refused refusal; position = position }
