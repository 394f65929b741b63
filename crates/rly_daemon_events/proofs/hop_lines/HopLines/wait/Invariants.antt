use Rattle.std.proofs.Common.{ℕ, ◌<◌, ◌≤◌}
use Rattle.std.specs.Prelude.{IfSome}
use Rattle.rly_daemon_events.specs.HopEvents.{wait_at}
use Rattle.rly_daemon_events.proofs.hop_lines.HopLines.wait.Given as goal

abbrev pub invariant-loop-place : goal.invariant-loop-place
invariant-loop-place l =
    (l.wait ≤ 1000000) × ((place : ℕ) → place < l.place → IfSome (wait_at l.plan l.now l.resting l.self place) (λ wait. l.wait ≤ wait))
