use Rattle.std.proofs.Common.{◌≡◌}
use Rattle.toml.proofs.Views.{view-Array}
use Rattle.toml.specs.View.{items_view}
use Rattle.rly_plan_show.specs.PlanAdvice.{items_count}
use Rattle.rly_plan_show.proofs.plan_advice.write_plain.Goals as goal

pub returns-in-Array : goal.returns-in-Array
returns-in-Array c =
    let count : c.count_of.result ≡ items_count (items_view c.in-Array.field-0.items) =
    rw (c.in-Array.is, view-Array c.in-Array.field-0) at c.count_of.ensures in
    rw (c.in-Array.is, view-Array c.in-Array.field-0, ← count) c.write-in-Array.ensures.bytes
