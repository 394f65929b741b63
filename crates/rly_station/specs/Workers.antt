-- The workers of a plan.
use Rattle.std.specs.Prelude.{ℕ, List, ◌++◌, length, map, Option}
use Rattle.std.specs.List.{range_with_len}
use Rattle.rly_plan.specs.ContactPlan.{ContactPlan, next_hop_at, peer_at}
use Rattle.rly_plan.specs.declared.neighbour.Neighbour.{Neighbour}
use Rattle.rly_link.specs.declared.turn.Worker.{Worker}
use Rattle.rly_link.specs.declared.turn.Worker.TheVariants as worker

-- the receivers of this many peers, whose ids are 1, 2, 3, ..
abbrev pub receivers : ℕ → List Worker
receivers count = map (λ id. worker.Receiver (record { 0 = id })) (range_with_len 1 count)

-- the senders to this many hops
abbrev pub senders : ℕ → List Worker
senders count = map (λ id. worker.Sender (record { 0 = id })) (range_with_len 1 count)

-- a receiver for each peer of a plan, and a sender for each hop
abbrev pub workers_of : ContactPlan → List Worker
workers_of plan = receivers (length plan.peers) ++ senders (length plan.hops)

-- the neighbour of a worker, if the plan has it
abbrev pub neighbour_of : ContactPlan → Worker → Option Neighbour
neighbour_of plan (worker.Receiver peer) = peer_at plan peer
neighbour_of plan (worker.Sender hop) = next_hop_at plan hop
