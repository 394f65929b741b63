-- What a relay needs of its device, and what its workers did.
use Rattle.std.specs.Prelude.{◌≡◌, ◌⊎◌, ℕ, ◌<◌, ◌≤◌, List, length, map, Bool, false, true, None, Option, Some}
use Rattle.std.specs.Option.{is_none}
use Rattle.rly_core.specs.declared.ids.HopId.{HopId}
use Rattle.rly_core.specs.declared.params.Params.{Params}
use Rattle.rly_core.specs.declared.refusal.Refusal.TheVariants.{Broken}
use Rattle.rly_disk.specs.DiskModel.{DiskState}
use Rattle.rly_hop.specs.Spelling.{longest_message}
use Rattle.rly_journal.specs.Journal.{JournalState}
use Rattle.rly_plan.specs.ContactPlan.{ContactPlan}
use Rattle.rly_link.specs.Memory.{handed_of, woken_of}
use Rattle.rly_link.specs.LinkHistory.{Handed}
use Rattle.rly_posts.specs.Duties.{PostOver, duties, duty_over}
use Rattle.rly_station.specs.Workers.{workers_of}
use Rattle.rly_station.specs.declared.file_fault.Cause.TheVariants.{NoCause}
use Rattle.rly_station.specs.declared.serve_fault.ServeFault.{ServeFault}
use Rattle.rly_station.specs.declared.serve_fault.ServeFault.TheVariants.{Refused, Unreported, Worker}
use Rattle.rly_posts.specs.Neighbour.{neighbour_heard, neighbour_sent}
use Rattle.rly_posts.specs.declared.neighbour_link.NeighbourLink.{NeighbourLink}
use Rattle.rly_station.specs.declared.plan_keys.KeyedWorker.{KeyedWorker}
use Rattle.rly_link_udp.specs.declared.sender_waker.SenderWaker.{SenderWaker}
use Rattle.rly_link_udp.specs.declared.wall_clock.WallClock.{WallClock}
use Rattle.rly_threads.specs.declared.relay.Relayed.{Relayed}
use Rattle.rly_threads.specs.Relay.{IsRelayEnd}

-- a device has each peer and each hop of a plan
pub record FitsPlan (plan : ContactPlan) (params : Params) : Type 0 where
  pub peers : length plan.peers ≤ params.peers
  pub hops : length plan.hops ≤ params.hops

-- a plan has more peers or more hops than a device
abbrev pub LacksRoom : ContactPlan → Params → Type 0
LacksRoom plan params = (params.peers < length plan.peers) ⊎ (params.hops < length plan.hops)

-- the ghost histories of a clock and of a waker, and whether the clock's turns are endless
abbrev pub clock_log : {C : Type 0} → WallClock C → Option (List Handed)
clock_log clock = Some (handed_of clock.handed)

abbrev pub waker_woken : SenderWaker → Option (List HopId)
waker_woken waker = Some (woken_of waker.woken)

abbrev pub clock_endless : {C : Type 0} → WallClock C → Bool
clock_endless clock = is_none clock.left

-- why a relay that was started didn't end well, if it didn't: whether its journal broke, whether all had a thread and ran
-- until their turns were ended, and whether its startup lines were written
abbrev pub end_fault : Bool → Bool → Bool → Option ServeFault
end_fault true complete told = Some (Refused Broken NoCause)
end_fault false false told = Some Worker
end_fault false true false = Some Unreported
end_fault false true true = None

-- A relay of a plan was started on a journal, and has ended. Each worker of the plan that had a thread did at its post and
-- its seat what the plan says of it, from its start to its end, and left that post. Its link leads to the socket or the folder
-- that the plan names. Early Data are kept, and files taken, up to the longest message of the spool, which has the journal's
-- parameters. A socket is sealed with the key that there is for it, and no other one is. A socket and a folder tell nothing
-- of what they heard and sent; a seat, a clock and a waker tell all.
pub record HasRunOver {D L C : Type 0} (state : D → DiskState) (below : L → NeighbourLink C) (seats : ℕ)
    (plan : ContactPlan) (links : List KeyedWorker) (journal : JournalState D) (turns : ℕ)
    (relayed : Relayed D L (WallClock C) SenderWaker) : Type 0 where
  pub posts : List (PostOver L C)
  pub planned : map (duty_over below) posts ≡ duties plan links (longest_message journal.state.params.payload) turns
  pub count : length posts ≡ length (workers_of plan)
  -- its line had this number of seats
  pub end : IsRelayEnd state (λ l. neighbour_heard (below l)) (λ l. neighbour_sent (below l)) clock_log clock_endless
      waker_woken plan journal seats posts relayed

-- the same where each worker has the link to its neighbour itself, and no one else a seat
abbrev pub HasRun : {D C : Type 0} → (D → DiskState) → ContactPlan → List KeyedWorker → JournalState D → ℕ
    → Relayed D (NeighbourLink C) (WallClock C) SenderWaker → Type 0
HasRun state plan links journal turns relayed =
    HasRunOver state (λ l. l) (length (workers_of plan)) plan links journal turns relayed
