-- The parts of a round of a relay.
use Rattle.std.specs.Prelude.{◌≡◌, ◌≢◌, ◌⊎◌, ◌++◌, ℕ, Bool, false, nat_le, if◌then◌else◌, List, [], ◌∷◌, Option}
use Rattle.std.specs.Prelude.{Some, None, length}
use Rattle.std.specs.List.{AllByRecursion}
use Rattle.rly_core.specs.Bounds.{IsIn}
use Rattle.rly_disk.specs.FaultDisk.{inner_of}
use Rattle.rly_disk.specs.MemDisk.{mem_state}
use Rattle.rly_disk.specs.declared.fault_disk.FaultDisk.{FaultDisk}
use Rattle.rly_disk.specs.declared.mem.MemDisk.{MemDisk}
use Rattle.rly_machine.specs.declared.call.Answer.{Answer}
use Rattle.rly_machine.specs.declared.call.Call.{Call}
use Rattle.rly_journal.specs.Journal.{JournalState}
use Rattle.rly_world.specs.RelaySteps.{AreRead, Event, Run}
use Rattle.rly_world.specs.RelayWorld.{Answering, Batch, Device, Round, Taking, World, calls_of}
use Rattle.rly_journal.specs.Recovery.{Commands}
use Rattle.rly_world_relay.specs.Relay.{IsDeviceOf, IsReached, IsSpoolOf}
use Rattle.rly_world_relay.specs.RelayRounds.{Gathers, IsServing}
use Rattle.rly_world_relay.specs.declared.spool.Spool.TheVariants.{Opened}

-- ---- batches are taken

-- a batch was removed: the kept one, or else the first in the queue; or none exists
abbrev pub IsNext : Option Batch → List Batch → Option Batch → Option Batch → List Batch → Type 0
IsNext (Some batch) line next kept rest = (next ≡ Some batch) × (kept ≡ None) × (rest ≡ line)
IsNext None [] next kept rest = (next ≡ None) × (kept ≡ None) × (rest ≡ [])
IsNext None (batch ∷ line) next kept rest = (next ≡ Some batch) × (kept ≡ None) × (rest ≡ line)

-- no batch may be taken
abbrev pub IsNoneLeft : Option Batch → List Batch → List Call → Type 0
IsNoneLeft kept line calls = ((kept ≢ None) × (calls ≢ [])) ⊎ ((kept ≡ None) × (line ≡ []))

-- a batch is taken: its calls join the round, or it is kept
pub record TakesOne (kept : Option Batch) (line : List Batch) (calls : List Call) (kept_then : Option Batch)
    (line_then : List Batch) (calls_then : List Call) : Type 0 where
  pub batch : Batch
  pub count : IsIn 1 64 (length batch)
  pub next : ((kept ≡ Some batch) × (calls ≡ []) × (line ≡ line_then)) ⊎ ((kept ≡ None) × (line ≡ batch ∷ line_then))
  pub kept_is : kept_then ≡ (if nat_le (length (calls ++ batch)) 64 then None else Some batch)
  pub calls_are : calls_then ≡ (if nat_le (length (calls ++ batch)) 64 then calls ++ batch else calls)

-- a round that takes batches, and has made no read
abbrev pub round_of_batches : List Batch → Round
round_of_batches batches = record { stage = Taking; batches = batches; answers = []; read_failed = false }

-- the current round of batches, if there are any
abbrev pub round_of : List Batch → Option Round
round_of [] = None
round_of (batch ∷ batches) = Some (round_of_batches (batch ∷ batches))

-- a model state whose committer took batches
abbrev pub taken_world : World → Option Batch → List Batch → List Batch → World
taken_world w kept line batches = record w { kept = kept; line = line; round = round_of batches }

abbrev pub AreSome : List Batch → Type 0
AreSome batches = AllByRecursion (λ batch. batch ≢ []) batches

-- batches with these calls were taken in the model state of a relay
pub record Gathered (most : ℕ) (w : World) (kept : Option Batch) (line : List Batch) (calls : List Call) : Type 0 where
  pub takes : List Event
  pub batches : List Batch
  pub gathers : Gathers most w takes (taken_world w kept line batches)
  pub some : AreSome batches
  pub calls_are : calls_of batches ≡ calls

-- ---- the journal serves them

-- a model state with this journal
pub record IsWorldOf (journal : JournalState (FaultDisk MemDisk)) (w : World) : Type 0 where
  pub device : IsDeviceOf (mem_state (inner_of journal.disk)) w.device
  pub spool : IsSpoolOf (Opened journal) w

-- a round whose replies are ready
abbrev pub to_answer : List Batch → List Answer → Bool → Round
to_answer batches answers failed =
    record { stage = Answering; batches = batches; answers = answers; read_failed = failed }

-- from the model state of a journal, events of the committer lead to one whose round has its replies ready
pub record Served (new : JournalState (FaultDisk MemDisk)) (batches : List Batch) (answers : List Answer) (w : World)
    : Type 0 where
  pub events : List Event
  pub serving : AllByRecursion IsServing events
  pub next : World
  pub run : Run w events next
  pub device : Device
  pub accepted : Commands
  pub position : ℕ
  pub broken : Bool
  pub failed : Bool
  pub read : AreRead (to_answer batches answers failed)
  pub next_is : next ≡ record w {
    round = Some (to_answer batches answers failed);
    device = device;
    accepted = accepted;
    position = position;
    is_broken = broken;
  }
  pub world : IsWorldOf new next

abbrev pub Serves : JournalState (FaultDisk MemDisk) → JournalState (FaultDisk MemDisk) → List Call → List Answer
    → Type 0
Serves old new calls answers = (w : World) (batches : List Batch) → IsReached w → IsWorldOf old w
    → w.round ≡ Some (round_of_batches batches) → calls_of batches ≡ calls
    → Served new batches answers w
