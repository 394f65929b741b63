use Rattle.std.proofs.Common.{arith}
use Rattle.rly_law.proofs.Tables.{IsTable-greatest, IsTable-within}
use Rattle.rly_law.proofs.step_table.StepTableControl.step.Goals as goal

pub returns-then-count-clause-greatest : goal.returns-then-count-clause-greatest
returns-then-count-clause-greatest c =
    rw (← c.self.view_is)
    (IsTable-greatest c.self.inside.interval c.args.count c.self.inside.steps (omega arith) c.requires c.if-count.true c.self.invariant.1)

pub returns-then-count-clause-within : goal.returns-then-count-clause-within
returns-then-count-clause-within c =
    rw (← c.self.view_is)
    (IsTable-within c.self.inside.interval c.args.count c.self.inside.steps (omega arith) c.requires c.if-count.true c.self.invariant.1)
