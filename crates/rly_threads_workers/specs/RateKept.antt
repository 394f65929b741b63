-- The cost of a sending worker's packets to its hop's rate over a period of turns (docs/ARCHITECTURE.md, "The pace of a
-- hop").
use Rattle.std.specs.Prelude.{ℕ, ◌+◌, List, [], ◌∷◌, length, max, min}
use Rattle.rly_hop_pacing.specs.Rates.{cost}
use Rattle.rly_threads_workers.specs.declared.sender_state.SenderState.{SenderState}
use Rattle.rly_threads_workers.specs.SenderTurns.{SenderWorker, sender_turn}
use Rattle.rly_threads_workers.specs.Turns.{Given, done_in}

-- the cost of these packets, in millionths of a byte
abbrev pub total_cost : List (List ℕ) → ℕ
total_cost [] = 0
total_cost (packet ∷ others) = cost (length packet) + total_cost others

-- The earliest and the latest moment at which the calls of these turns were answered: packets are sent at these
-- moments.
abbrev pub earliest : Given → List Given → ℕ
earliest first [] = first.made.after.since
earliest first (next ∷ later) = min first.made.after.since (earliest next later)

abbrev pub latest : Given → List Given → ℕ
latest first [] = first.made.after.since
latest first (next ∷ later) = max first.made.after.since (latest next later)

-- the state after a sender's turns, and the packets sent, with at most this many calls per turn
abbrev pub left_by : SenderWorker → ℕ → SenderState → List Given → SenderState
left_by w most p turns = (done_in (sender_turn w most) p turns).core

abbrev pub sent_in : SenderWorker → ℕ → SenderState → List Given → List (List ℕ)
sent_in w most p turns = (done_in (sender_turn w most) p turns).sent
