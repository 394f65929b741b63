use Rattle.std.proofs.Common.{◌++◌, subst}
use Rattle.rly_network_folder.specs.Wanted.{AreAllPut, AreSomePut}
use Rattle.rly_network_folder.proofs.Puts.{all_are_some, calls_then, on_err, one_more_station, one_taken, some_stations_put}
use Rattle.rly_network_folder.proofs.put.put_stations.Goals as goal

pub loop-wanted-preserved : goal.loop-wanted-preserved
loop-wanted-preserved g c =
    let before = c.loop-wanted.invariant in
    let own = c.in_ok-is_new.ensures.put in
    let put = subst (λ l. AreAllPut l c.in_ok-is_new.is_new own.0) c.deref.ensures.value own.1 in (
      before.0 ++ own.0,
      rw (one_taken c.args.stations.now c.loop-wanted.wanted-index c.wanted-item.result c.loop-wanted-test.true c.wanted-item.is, c.in_default.ensures.items)
          (one_more_station _ _ before.0 c.wanted-item.result _ own.0 before.1 put),
      calls_then _ _ _ before.0 own.0 before.2 own.2,
    )

pub returns-in_err-is_new-clause-some : goal.returns-in_err-is_new-clause-some
returns-in_err-is_new-clause-some g c =
    let before = c.loop-wanted.invariant in
    let own = c.in_err-is_new.ensures.some in
    let some = subst (λ l. AreSomePut l own.0) c.deref.ensures.value own.1 in
    on_err _ (some_stations_put c.args.stations.now c.loop-wanted.wanted-index c.wanted-item.result _ before.0 own.0 _ _ _
    c.loop-wanted-test.true c.wanted-item.is before.1 before.2 some own.2)

pub returns-in-Err-clause-some : goal.returns-in-Err-clause-some
returns-in-Err-clause-some g c =
    let before = c.loop-wanted.invariant in
    let own = c.in_ok-is_new.ensures.put in
    let some = all_are_some _ _ own.0 (subst (λ l. AreAllPut l c.in_ok-is_new.is_new own.0) c.deref.ensures.value own.1) in
    some_stations_put c.args.stations.now c.loop-wanted.wanted-index c.wanted-item.result _ before.0 own.0 _ _ _
    c.loop-wanted-test.true c.wanted-item.is before.1 before.2 some own.2
