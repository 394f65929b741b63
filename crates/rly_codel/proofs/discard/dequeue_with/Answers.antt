use Rattle.std.proofs.Common.{ap, ◌∙◌, arith}
use Rattle.rly_codel.proofs.LoopCases.{dequeue_by_loop-cases}
use Rattle.rly_codel.proofs.Bounds.{dropped-lt, dropped-empty, first_above_time-le, drop_next-le, lastcount-le, count-le}
use Rattle.rly_codel.proofs.discard.dequeue_with.Goals as goal

pub returns-clause-state : goal.returns-clause-state
returns-clause-state g c =
    c.drop_from_front-dropped.ensures.state ∙ ap (λ o. o.state) (dequeue_by_loop-cases _ _ _ _)

pub returns-clause-dropped : goal.returns-clause-dropped
returns-clause-dropped g c =
    c.drop_from_front-dropped.ensures.dropped ∙ ap (λ o. o.dropped) (dequeue_by_loop-cases _ _ _ _)

pub returns-clause-last_is_delivered : goal.returns-clause-last_is_delivered
returns-clause-last_is_delivered g c = λ some.
    omega (
      arith,
      dropped-lt c.args.params.now c.args.now (g.L.Lane.waiting c.args.lane.now) c.args.state.now some,
      returns-clause-dropped g c,
    )

pub returns-clause-empty : goal.returns-clause-empty
returns-clause-empty g c = λ none.
    omega (
      arith,
      dropped-empty c.args.params.now c.args.now (g.L.Lane.waiting c.args.lane.now) c.args.state.now none,
      returns-clause-dropped g c,
    )

pub returns-clause-first_above_time : goal.returns-clause-first_above_time
returns-clause-first_above_time g c =
    omega (
      arith,
      first_above_time-le c.args.params.now c.args.now (g.L.Lane.waiting c.args.lane.now) c.args.state.now,
      ap (λ s. s.first_above_time) (returns-clause-state g c),
    )

pub returns-clause-drop_next : goal.returns-clause-drop_next
returns-clause-drop_next g c =
    omega (
      arith,
      drop_next-le c.args.params.now c.args.now (g.L.Lane.waiting c.args.lane.now) c.args.state.now
          (omega (arith, c.requires.params.interval)),
      ap (λ s. s.drop_next) (returns-clause-state g c),
    )

pub returns-clause-lastcount : goal.returns-clause-lastcount
returns-clause-lastcount g c =
    omega (
      arith,
      lastcount-le c.args.params.now c.args.now (g.L.Lane.waiting c.args.lane.now) c.args.state.now c.requires.lastcount,
      ap (λ s. s.lastcount) (returns-clause-state g c),
      ap (λ s. s.count) (returns-clause-state g c),
    )

pub returns-clause-count : goal.returns-clause-count
returns-clause-count g c =
    omega (
      arith,
      count-le c.args.params.now c.args.now (g.L.Lane.waiting c.args.lane.now) c.args.state.now,
      ap (λ s. s.count) (returns-clause-state g c),
      returns-clause-dropped g c,
    )
