use Rattle.std.proofs.Common.{◌∙◌, ap, is_none}
use Rattle.rly_plan_syntax.proofs.NoPath.{told}
use Rattle.rly_plan.proofs.PathTests.{none_out_of_range}
use Rattle.rly_plan.proofs.passes.is_in_range.Goals as goal

pub returns : goal.returns
returns c = told c.range_place.result c.is_none.result _ c.is_none.ensures (ap is_none c.range_place.ensures ∙ none_out_of_range c.args.draft.now)
