use Rattle.std.proofs.Common.{◌+◌}
use Rattle.rly_plan_show.proofs.Warned.{all_after, same_more}
use Rattle.rly_plan_show.proofs.plan_warnings.warn_of_listens.Goals as goal

pub loop-index-preserved : goal.loop-index-preserved
loop-index-preserved c =
    same_more c.loop-index.warnings.items c.warn_of_same.new.warnings.items _ c.args.listens.now _ c.loop-index.index c.index-listens-index.result
    c.loop-index-test.true c.index-listens-index.is (all_after c.args.listens.now (c.loop-index.index + 1)) c.in_ok-warn_of_same.ensures c.loop-index.invariant
