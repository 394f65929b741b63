use Rattle.rly_law.proofs.Steps.{IsStep-root, IsStep-step_of, IsStep-unique}
use Rattle.rly_law.proofs.control_law.step.Goals as goal
use Rattle.std.proofs.Common.{arith}

pub returns-clause-greatest : goal.returns-clause-greatest
returns-clause-greatest c =
    IsStep-root _ _ _ c.requires.count c.isqrt.ensures.square_le c.isqrt.ensures.next_square_gt

pub returns-clause-value : goal.returns-clause-value
returns-clause-value c =
    IsStep-unique _ _ _ _
    (IsStep-root _ _ _ c.requires.count c.isqrt.ensures.square_le c.isqrt.ensures.next_square_gt)
    (IsStep-step_of c.args.interval c.args.count (omega arith) c.requires.count)
