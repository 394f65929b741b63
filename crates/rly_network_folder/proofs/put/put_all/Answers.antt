use Rattle.std.proofs.Common.{◌++◌}
use Rattle.rly_network_folder.proofs.Puts.{calls_then, on_err, one_more_put, one_taken, some_put}
use Rattle.rly_network_folder.proofs.put.put_all.Goals as goal

pub loop-one-preserved : goal.loop-one-preserved
loop-one-preserved g c =
    let before = c.loop-one.invariant in
    let own = c.in_ok-is_new.ensures.put in (
      before.0 ++ own.0,
      rw (one_taken c.args.wanted.now c.loop-one.one-index c.one-item.result c.loop-one-test.true c.one-item.is)
          (one_more_put _ _ before.0 c.one-item.result _ own.0 before.1 own.1),
      calls_then _ _ _ before.0 own.0 before.2 own.2,
    )

pub returns-in_err-is_new-clause-some : goal.returns-in_err-is_new-clause-some
returns-in_err-is_new-clause-some g c =
    let before = c.loop-one.invariant in
    on_err _ (some_put c.args.wanted.now c.loop-one.one-index _ before.0 _ _ _ before.1 before.2 c.in_err-is_new.ensures.looked)
