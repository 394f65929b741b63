use Rattle.std.proofs.Common.{ap, sym, arith, drop, nat_le}
use Rattle.std.proofs.lemmas.Bool.{and_left, and_right, lt-leb}
use Rattle.rly_codel.proofs.Candidates.{drop_loop-more, drop_loop-rests}
use Rattle.rly_codel.proofs.discard.drop_while_due.Goals as goal

pub loop-state-preserved : goal.loop-state-preserved
loop-state-preserved g c = record {
  candidate = c.count_drop.ensures.is_there;
  counted = omega arith;
  rest =
      drop_loop-more c.args.params.now c.args.now (g.L.Lane.waiting c.args.lane.now) c.loop-state.dropped c.loop-state.state _ _ (c.loop-state.invariant.candidate c.loop-state-test.true)
      c.if-now-state.true c.loop-state-test.true c.count_drop.ensures.state c.loop-state.invariant.rest;
}

pub returns-else-now-state-clause-state : goal.returns-else-now-state-clause-state
returns-else-now-state-clause-state g c =
    ap (λ o. o.state)
    (sym (drop_loop-rests c.args.params.now c.args.now (drop c.loop-state.dropped (g.L.Lane.waiting c.args.lane.now)) c.loop-state.dropped c.loop-state.state _ (and_left _ _ (lt-leb c.loop-state.state.drop_next c.args.now c.if-now-state.false)) c.loop-state.invariant.rest))

pub returns-else-now-state-clause-dropped : goal.returns-else-now-state-clause-dropped
returns-else-now-state-clause-dropped g c =
    ap (λ o. o.dropped)
    (sym (drop_loop-rests c.args.params.now c.args.now (drop c.loop-state.dropped (g.L.Lane.waiting c.args.lane.now)) c.loop-state.dropped c.loop-state.state _ (and_left _ _ (lt-leb c.loop-state.state.drop_next c.args.now c.if-now-state.false)) c.loop-state.invariant.rest))

pub returns-after-loop-state-clause-state : goal.returns-after-loop-state-clause-state
returns-after-loop-state-clause-state g c =
    ap (λ o. o.state)
    (sym (drop_loop-rests c.args.params.now c.args.now (drop c.loop-state.dropped (g.L.Lane.waiting c.args.lane.now)) c.loop-state.dropped c.loop-state.state _ (and_right (nat_le c.loop-state.state.drop_next c.args.now) c.loop-state.state.dropping c.loop-state-test.false) c.loop-state.invariant.rest))

pub returns-after-loop-state-clause-dropped : goal.returns-after-loop-state-clause-dropped
returns-after-loop-state-clause-dropped g c =
    ap (λ o. o.dropped)
    (sym (drop_loop-rests c.args.params.now c.args.now (drop c.loop-state.dropped (g.L.Lane.waiting c.args.lane.now)) c.loop-state.dropped c.loop-state.state _ (and_right (nat_le c.loop-state.state.drop_next c.args.now) c.loop-state.state.dropping c.loop-state-test.false) c.loop-state.invariant.rest))
