use Rattle.std.proofs.Common.{◌++◌, inr, refl}
use Rattle.std.proofs.lemmas.Result.{err_from_is_err_and}
use Rattle.rly_network_command.proofs.LookLemmas.{told_at, told_begun}
use Rattle.rly_network_folder.proofs.Puts.{calls_then}
use Rattle.rly_network_command.proofs.network_write.write_network.Goals as goal

pub returns-clause-written : goal.returns-clause-written
returns-clause-written g c =
    let read = c.in_ok-wishes.ensures.wished in
    let put = c.in_ok-new.ensures.put in (
      read.0 ++ (put.1 ++ put.2),
      record {
        ids = c.in_ok-wishes.wishes.ids.items;
        wanted = c.in_ok-wishes.wishes.wanted.items;
        ids_new = put.0;
        looks = read.0;
        ids_calls = put.1;
        own_calls = put.2;
        wished = read.1;
        ids_put = put.3;
        put = put.4;
        all = refl;
      },
      calls_then _ _ _ _ _ read.2 put.5,
    )

pub returns-in_err-wishes-clause-told : goal.returns-in_err-wishes-clause-told
returns-in_err-wishes-clause-told g c = told_at _ _ c.from_residual.result _ _ c.read_wishes.ensures.looked

pub returns-in_err-new-clause-told : goal.returns-in_err-new-clause-told
returns-in_err-new-clause-told g c =
    let read = c.in_ok-wishes.ensures.wished in
    let put = c.in_err-new.ensures.some in
    let failed = err_from_is_err_and c.from_residual-in_err-new.result c.from_residual-in_err-new.ensures.1 in
    told_begun _ _ _ _ _ failed.0 failed.2 failed.1 (inr (
      read.0 ++ put.0,
      record {
        stations = c.in_ok-wishes.wishes.stations.items;
        ids = c.in_ok-wishes.wishes.ids.items;
        wanted = c.in_ok-wishes.wishes.wanted.items;
        looks = read.0;
        puts = put.0;
        wished = read.1;
        some = put.1;
        all = refl;
      },
      calls_then _ _ _ read.0 put.0 read.2 put.2,
    ))
