use Rattle.std.proofs.Common.{◌∙◌, ap, is_none}
use Rattle.rly_plan_syntax.specs.Draft.{PlanText}
use Rattle.rly_plan_syntax.proofs.NoPath.{told}
use Rattle.rly_plan.proofs.PathTests.{none_overlapping}
use Rattle.rly_plan.proofs.number_paths.are_apart.Goals as goal

pub returns : goal.returns
returns c = told c.first_row.result c.is_none.result _ c.is_none.ensures (ap is_none c.first_row.ensures ∙ none_overlapping c.deref.result.now c.args.draft.now.hops (c.deref.ensures.value ∙ ap (λ (d : PlanText). d.hops) c.draft.view_is))
