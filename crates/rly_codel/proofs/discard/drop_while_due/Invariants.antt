use Rattle.std.proofs.Common.{◌≡◌, ◌+◌, ◌-◌, ◌<◌, length, drop, IsTrue}
use Rattle.rly_codel.specs.Loop.{drop_loop}
use Rattle.rly_codel.proofs.discard.drop_while_due.Given as goal

abbrev pub invariant-loop-state : goal.invariant-loop-state
invariant-loop-state g l = record {
  candidate : IsTrue l.state.dropping → l.dropped < length (g.L.Lane.waiting l.lane);
  counted : l.state.count ≡ l.fn.state.count + l.dropped;
  rest :
      drop_loop l.params l.now (g.L.Lane.waiting l.lane) l.fn.state
      ≡ record {
        dropped = l.dropped + (drop_loop l.params l.now (drop l.dropped (g.L.Lane.waiting l.lane)) l.state).dropped;
        state = (drop_loop l.params l.now (drop l.dropped (g.L.Lane.waiting l.lane)) l.state).state;
      };
}

abbrev pub decreases-loop-state : goal.decreases-loop-state
decreases-loop-state g l = length (g.L.Lane.waiting l.lane) - l.dropped
