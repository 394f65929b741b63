use Rattle.std.proofs.Common.{◌≡◌, length}
use Rattle.std_alloc.specs.Vec.Iter.{into_iter_items}
use Rattle.rly_world.specs.RelaySteps.{all_replied}
use Rattle.rly_world_relay.specs.HelpersSeats.{HaveRoom, views_of}
use Rattle.rly_world_relay.proofs.round.reply_all.Given as goal

abbrev pub invariant-loop-answer : goal.invariant-loop-answer
invariant-loop-answer l =
    (goal.iterator-loop-answer).can_next l.answer-iterator
    × (goal.iterator-loop-answer).is_finite l.answer-iterator
    × (all_replied (views_of l.seats.items) (into_iter_items l.answer-iterator) ≡ all_replied (views_of l.fn.seats.items) l.fn.answers.items)
    × HaveRoom (length (into_iter_items l.answer-iterator)) l.seats.items
