use Rattle.std.proofs.Common.{ap, sym, arith}
use Rattle.rly_codel.proofs.Candidates.{dodequeue-below, dodequeue-rises, dodequeue-decides}
use Rattle.rly_codel.proofs.discard.look_at.Goals as goal

pub returns-then-is_below_target-clause-ok_to_drop : goal.returns-then-is_below_target-clause-ok_to_drop
returns-then-is_below_target-clause-ok_to_drop g c =
    ap (λ r. r.ok_to_drop)
    (sym (dodequeue-below c.args.params.now c.args.now (g.L.Lane.waiting c.args.lane.now) c.args.index c.args.state.now (omega arith) c.if-is_below_target.ensures))

pub returns-then-is_below_target-clause-state : goal.returns-then-is_below_target-clause-state
returns-then-is_below_target-clause-state g c =
    ap (λ r. r.state)
    (sym (dodequeue-below c.args.params.now c.args.now (g.L.Lane.waiting c.args.lane.now) c.args.index c.args.state.now (omega arith) c.if-is_below_target.ensures))

pub returns-then-state-eq0-clause-ok_to_drop : goal.returns-then-state-eq0-clause-ok_to_drop
returns-then-state-eq0-clause-ok_to_drop g c =
    ap (λ r. r.ok_to_drop)
    (sym (dodequeue-rises c.args.params.now c.args.now (g.L.Lane.waiting c.args.lane.now) c.args.index c.args.state.now (omega arith) c.if-is_below_target.ensures c.if-state-eq0.true))

pub returns-then-state-eq0-clause-state : goal.returns-then-state-eq0-clause-state
returns-then-state-eq0-clause-state g c =
    ap (λ r. r.state)
    (sym (dodequeue-rises c.args.params.now c.args.now (g.L.Lane.waiting c.args.lane.now) c.args.index c.args.state.now (omega arith) c.if-is_below_target.ensures c.if-state-eq0.true))

pub returns-else-state-eq0-clause-ok_to_drop : goal.returns-else-state-eq0-clause-ok_to_drop
returns-else-state-eq0-clause-ok_to_drop g c =
    ap (λ r. r.ok_to_drop)
    (sym (dodequeue-decides c.args.params.now c.args.now (g.L.Lane.waiting c.args.lane.now) c.args.index c.args.state.now (omega arith) c.if-is_below_target.ensures c.if-state-eq0.false))

pub returns-else-state-eq0-clause-state : goal.returns-else-state-eq0-clause-state
returns-else-state-eq0-clause-state g c =
    ap (λ r. r.state)
    (sym (dodequeue-decides c.args.params.now c.args.now (g.L.Lane.waiting c.args.lane.now) c.args.index c.args.state.now (omega arith) c.if-is_below_target.ensures c.if-state-eq0.false))
