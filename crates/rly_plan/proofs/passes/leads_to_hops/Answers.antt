use Rattle.std.proofs.Common.{◌∙◌, ap, is_none}
use Rattle.rly_plan_syntax.proofs.NoPath.{told}
use Rattle.rly_plan.proofs.PathTests.{none_astray}
use Rattle.rly_plan.proofs.passes.leads_to_hops.Goals as goal

pub returns : goal.returns
returns c = told c.lead_place.result c.is_none.result _ c.is_none.ensures (ap is_none c.lead_place.ensures ∙ none_astray c.args.draft.now)
