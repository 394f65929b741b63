use Rattle.std.proofs.Common.{ap, sym, ◌∙◌}
use Rattle.rly_codel.proofs.Candidates.{dequeue_by_loop-phase, dequeue_by_loop-enters, dequeue_by_loop-delivers}
use Rattle.rly_codel.proofs.discard.drop_from_front.Goals as goal

pub returns-then-was_dropping-clause-state : goal.returns-then-was_dropping-clause-state
returns-then-was_dropping-clause-state g c =
    c.drop_while_due.ensures.state
    ∙ ap (λ o. o.state)
    (sym (dequeue_by_loop-phase c.args.params.now c.args.now (g.L.Lane.waiting c.args.lane.now) c.args.state.now
    c.look_at-ok_to_drop.new.state c.look_at-ok_to_drop.result c.if-was_dropping.true
    c.look_at-ok_to_drop.ensures.ok_to_drop c.look_at-ok_to_drop.ensures.state
    (ap (λ t. t.dropping) c.look_at-ok_to_drop.ensures.keeps)))

pub returns-then-was_dropping-clause-dropped : goal.returns-then-was_dropping-clause-dropped
returns-then-was_dropping-clause-dropped g c =
    c.drop_while_due.ensures.dropped
    ∙ ap (λ o. o.dropped)
    (sym (dequeue_by_loop-phase c.args.params.now c.args.now (g.L.Lane.waiting c.args.lane.now) c.args.state.now
    c.look_at-ok_to_drop.new.state c.look_at-ok_to_drop.result c.if-was_dropping.true
    c.look_at-ok_to_drop.ensures.ok_to_drop c.look_at-ok_to_drop.ensures.state
    (ap (λ t. t.dropping) c.look_at-ok_to_drop.ensures.keeps)))

pub returns-then-ok_to_drop-clause-state : goal.returns-then-ok_to_drop-clause-state
returns-then-ok_to_drop-clause-state g c =
    c.enter_phase.ensures
    ∙ ap (λ o. o.state)
    (sym (dequeue_by_loop-enters c.args.params.now c.args.now (g.L.Lane.waiting c.args.lane.now) c.args.state.now
    c.look_at-ok_to_drop.new.state c.if-was_dropping.false c.if-ok_to_drop.ensures.ok_to_drop
    c.if-ok_to_drop.ensures.state))

pub returns-then-ok_to_drop-clause-dropped : goal.returns-then-ok_to_drop-clause-dropped
returns-then-ok_to_drop-clause-dropped g c =
    ap (λ o. o.dropped)
    (sym (dequeue_by_loop-enters c.args.params.now c.args.now (g.L.Lane.waiting c.args.lane.now) c.args.state.now
    c.look_at-ok_to_drop.new.state c.if-was_dropping.false c.if-ok_to_drop.ensures.ok_to_drop
    c.if-ok_to_drop.ensures.state))

pub returns-else-ok_to_drop-clause-state : goal.returns-else-ok_to_drop-clause-state
returns-else-ok_to_drop-clause-state g c =
    ap (λ o. o.state)
    (sym (dequeue_by_loop-delivers c.args.params.now c.args.now (g.L.Lane.waiting c.args.lane.now) c.args.state.now
    c.look_at-ok_to_drop.new.state c.if-was_dropping.false c.if-ok_to_drop.ensures.ok_to_drop
    c.if-ok_to_drop.ensures.state))

pub returns-else-ok_to_drop-clause-dropped : goal.returns-else-ok_to_drop-clause-dropped
returns-else-ok_to_drop-clause-dropped g c =
    ap (λ o. o.dropped)
    (sym (dequeue_by_loop-delivers c.args.params.now c.args.now (g.L.Lane.waiting c.args.lane.now) c.args.state.now
    c.look_at-ok_to_drop.new.state c.if-was_dropping.false c.if-ok_to_drop.ensures.ok_to_drop
    c.if-ok_to_drop.ensures.state))
