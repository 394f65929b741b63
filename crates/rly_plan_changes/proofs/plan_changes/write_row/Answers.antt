use Rattle.std.proofs.Common.{◌∙◌, ◌+◌, ◌++◌, ap, string_bytes}
use Rattle.rly_plan_changes.specs.PlanChanges.{id_at}
use Rattle.rly_plan_changes.proofs.Rows.{number_more}
use Rattle.rly_plan_changes.proofs.plan_changes.write_row.Goals as goal

pub loop-index-preserved : goal.loop-index-preserved
loop-index-preserved c =
    c.in_ok-write_id.ensures
    ∙ ap (λ t. t ++ id_at c.args.row c.args.old.now c.args.new.now (c.loop-index.index + 1)) c.loop-index.invariant
    ∙ number_more (id_at c.args.row c.args.old.now c.args.new.now) (string_bytes c.args.text.now) c.loop-index.index
