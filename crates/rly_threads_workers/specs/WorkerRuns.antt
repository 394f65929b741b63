-- The effects of a worker of a plan, from its start to its end.
use Rattle.std.specs.Prelude.{◌≡◌, ◌⊎◌, ℕ, List, IfNone, IfSome}
use Rattle.rly_core.specs.declared.ids.HopId.{HopId}
use Rattle.rly_core.specs.declared.ids.PeerId.{PeerId}
use Rattle.rly_core.specs.declared.params.Params.{Params}
use Rattle.rly_hop.specs.Receiving.{receiver}
use Rattle.rly_hop.specs.Sending.{sender}
use Rattle.rly_plan.specs.ContactPlan.{ContactPlan, next_hop_at, peer_at, rate, resend}
use Rattle.rly_link.specs.declared.turn.Worker.{Worker}
use Rattle.rly_link.specs.declared.turn.Worker.TheVariants as worker
use Rattle.rly_threads_workers.specs.ReceiverTurns.{Arrivals, receiver_worker, receiver_turn}
use Rattle.rly_threads_workers.specs.SenderTurns.{sender_worker, sender_turn}
use Rattle.rly_threads_workers.specs.SenderState.{first_sender_state}
use Rattle.rly_threads_workers.specs.Runs.{EndsView, Ran}
use Rattle.rly_threads_workers.specs.Turns.{Given, done_in}

-- A receiver of a peer of the plan, from its start to its end: its receives, asks and sent packets are exactly
-- those that its cores and its rules of waiting request on its inputs, in order. It takes up to 64 packets per
-- turn, or one if memory for the lists of their Takes was refused at its start. A receiver of a peer that isn't in
-- the plan has no effects.
abbrev pub HasReceived : ContactPlan → PeerId → EndsView → EndsView → Type 0
HasReceived plan peer old new =
    IfNone (peer_at plan peer) (new ≡ old)
    × IfSome (peer_at plan peer) (λ neighbour. (most : ℕ) × ((most ≡ 64) ⊎ (most ≡ 1)) × (turns : List Arrivals)
    × Ran old new (worker.Receiver peer)
    (done_in (receiver_turn (receiver_worker plan peer) most)
    (receiver (record { 0 = plan.station }) (record { 0 = neighbour.station })) turns))

-- The same of a sender to a hop of the plan, in a spool with these parameters: with its window and its longest
-- payload, at the hop's `resend` and rate. It submits up to 64 calls together, or one at a time if memory for their
-- lists was refused at its start.
abbrev pub HasSent : ContactPlan → Params → HopId → EndsView → EndsView → Type 0
HasSent plan params hop old new =
    IfNone (next_hop_at plan hop) (new ≡ old)
    × IfSome (next_hop_at plan hop) (λ neighbour. (most : ℕ) × ((most ≡ 64) ⊎ (most ≡ 1)) × (turns : List Given)
    × Ran old new (worker.Sender hop)
    (done_in (sender_turn (sender_worker plan hop) most)
    (first_sender_state (sender (record { 0 = plan.station }) (record { 0 = neighbour.station }) params.window) params
    (resend plan hop) (rate plan hop)) turns))

abbrev pub HasWorked : ContactPlan → Params → Worker → EndsView → EndsView → Type 0
HasWorked plan params (worker.Receiver peer) old new = HasReceived plan peer old new
HasWorked plan params (worker.Sender hop) old new = HasSent plan params hop old new
