use Rattle.std.proofs.Common.{◌≡◌, ◌+◌, ◌≤◌, ◌<◌, ◌^◌, ◌++◌, length, vec_capacity}
use Rattle.std_alloc.specs.Vec.Iter.{into_iter_items}
use Rattle.rly_world.specs.RelaySteps.{calls_from}
use Rattle.rly_world_relay.proofs.batch.Batch.of.Given as goal

abbrev pub invariant-loop-ask : goal.invariant-loop-ask
invariant-loop-ask l =
    (goal.iterator-loop-ask).can_next l.ask-iterator
    × (goal.iterator-loop-ask).is_finite l.ask-iterator
    × (l.calls.items ++ calls_from l.seat.0 l.number (into_iter_items l.ask-iterator) ≡ calls_from l.seat.0 l.fn.asked l.fn.asks.items)
    × (length l.calls.items + length (into_iter_items l.ask-iterator) ≤ vec_capacity l.calls)
    × (l.number + length (into_iter_items l.ask-iterator) < 2 ^ 64)
    × (length l.calls.items + length (into_iter_items l.ask-iterator) ≡ length l.fn.asks.items)
