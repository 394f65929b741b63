use Rattle.std.proofs.Common.{◌∙◌, ap, is_none}
use Rattle.rly_plan_syntax.proofs.NoPath.{told}
use Rattle.rly_plan.proofs.PathTests.{none_unsorted}
use Rattle.rly_plan.proofs.passes.is_sorted.Goals as goal

pub returns : goal.returns
returns c = told c.sorted_place.result c.is_none.result _ c.is_none.ensures (ap is_none c.sorted_place.ensures ∙ none_unsorted c.args.draft.now)
