use Rattle.std.proofs.Common.{◌≤◌, ◌+◌, ◌*◌, length, vec_capacity}
use Rattle.rly_world_relay.proofs.RelayTakes.{GathersOn, kept_count}
use Rattle.rly_world_relay.proofs.round.gather.Given as goal

abbrev pub invariant-loop-kept : goal.invariant-loop-kept
invariant-loop-kept l =
    GathersOn l.fn.most l.fn.kept l.fn.line.items l.kept l.line.items l.calls.items × (length l.calls.items ≤ 64) × (64 ≤ vec_capacity l.calls)

abbrev pub decreases-loop-kept : goal.decreases-loop-kept
decreases-loop-kept l = 2 * length l.line.items + kept_count l.kept
