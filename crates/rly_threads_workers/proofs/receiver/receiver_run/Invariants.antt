use Rattle.std.proofs.Common.{◌≡◌}
use Rattle.rly_hop.specs.Receiving.{receiver}
use Rattle.rly_threads_workers.specs.HelpersTurns.{HasNoTake}
use Rattle.rly_threads_workers.specs.ReceiverTurns.{receiver_worker, receiver_turn}
use Rattle.rly_threads_workers.proofs.Grown.{Ongoing}
use Rattle.rly_threads_workers.proofs.receiver.receiver_run.Given as goal

abbrev pub invariant-loop-turn : goal.invariant-loop-turn
invariant-loop-turn g l =
    HasNoTake l.takes
    × (l.takes.most ≡ l.initial.takes.most)
    × Ongoing (receiver_turn (receiver_worker l.intake.plan.now l.intake.peer) l.initial.takes.most) (receiver l.intake.own l.intake.station) (receiver l.intake.own l.intake.station) l.initial.ends l.ends
