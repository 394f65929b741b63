use Rattle.std.proofs.Common.{◌+◌, ◌∙◌}
use Rattle.rly_plan_changes.proofs.Others.{none_left}
use Rattle.rly_plan_changes.proofs.plan_ids.first_other.Goals as goal

pub returns : goal.returns
returns c = none_left c.args.row (c.loop-index.index + 1) c.loop-index.index c.args.old.now c.args.new.now (rw c.min-index-end.ensures at c.loop-index-test.false) ∙ c.loop-index.invariant
