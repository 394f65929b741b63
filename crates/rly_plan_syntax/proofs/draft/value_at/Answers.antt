-- A lookup in the map of a table finds the value that its members have at the key.
use Rattle.toml.proofs.Views.{table_get}
use Rattle.rly_plan_syntax.proofs.draft.value_at.Goals as goal

pub returns : goal.returns
returns c = record { value = table_get c.get.result c.args.key.now c.args.table.now.entries c.get.ensures.value }
