use Rattle.std.proofs.Common.{◌++◌, subst}
use Rattle.rly_network_folder.proofs.Puts.{calls_then}
use Rattle.rly_network_folder.specs.Wanted.{AreAllPut, AreSomePut, all_wanted}
use Rattle.rly_network_command.proofs.PutLemmas.{front_on, on_err_map, some_back}
use Rattle.rly_network_command.proofs.network_write.put_wishes.Goals as goal

pub returns-in_err-put_all-clause-some : goal.returns-in_err-put_all-clause-some
returns-in_err-put_all-clause-some g c =
    let own = c.in_err-put_all.ensures.some in
    front_on _ _ _ _ _ own.0 (subst (λ l. AreSomePut l own.0) c.deref.ensures.value own.1) own.2

pub returns-clause-some : goal.returns-clause-some
returns-clause-some g c =
    let own = c.in_ok-put_all.ensures.put in
    let all = subst (λ l. AreAllPut l c.in_ok-put_all.field-0 own.0) c.deref.ensures.value own.1 in
    on_err_map c.put_stations.result
    (λ it. (own.0 ++ it.0, some_back _ _ _ own.0 it.0 all (subst (λ l. AreSomePut (all_wanted l) it.0) c.deref-2.ensures.value it.1), calls_then _ _ _ own.0 it.0 own.2 it.2))
    c.put_stations.ensures.some
