use Rattle.std.proofs.Common.{◌∙◌, ap, is_none}
use Rattle.toml.specs.View.{table_view}
use Rattle.rly_plan_syntax.proofs.KeyTests.{none_unknown}
use Rattle.rly_plan_syntax.proofs.NoPath.{told}
use Rattle.rly_plan_syntax.proofs.keys.keys_are_known.Goals as goal

pub returns : goal.returns
returns c = record {
  known = told c.unknown_place.result c.is_none.result _ c.is_none.ensures (ap is_none c.unknown_place.ensures.place ∙ none_unknown (table_view c.args.document.now));
}
