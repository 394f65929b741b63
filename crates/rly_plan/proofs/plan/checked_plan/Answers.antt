use Rattle.rly_plan.proofs.PassLemmas.{contacts_in_range, ranged_first}
use Rattle.rly_plan.proofs.plan.checked_plan.Goals as goal

pub plan_of_valid_draft-requires-clause-ranged : goal.plan_of_valid_draft-requires-clause-ranged
plan_of_valid_draft-requires-clause-ranged c = contacts_in_range c.args.draft (ranged_first c.args.draft _ c.in-None.ensures.plan)
