use Rattle.std.proofs.Common.{◌≡◌}
use Rattle.rly_threads_workers.specs.HelpersTurns.{IsIdle}
use Rattle.rly_threads_workers.specs.SenderTurns.{sender_worker, sender_turn}
use Rattle.rly_threads_workers.proofs.Grown.{Ongoing}
use Rattle.rly_threads_workers.proofs.sender.sender_run.Given as goal

abbrev pub invariant-loop-turn : goal.invariant-loop-turn
invariant-loop-turn g l =
    (l.outlet.plan ≡ l.initial.outlet.plan) × (l.outlet.hop ≡ l.initial.outlet.hop)
    × IsIdle l.calls
    × (l.calls.most ≡ l.initial.calls.most)
    × Ongoing (sender_turn (sender_worker l.initial.outlet.plan.now l.initial.outlet.hop) l.initial.calls.most) l.initial.outlet.pacing
    l.outlet.pacing l.initial.ends l.ends
