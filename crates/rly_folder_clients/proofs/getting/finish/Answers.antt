use Rattle.rly_folder_clients.proofs.GettingLists.{finish_cut, finish_stops, finish_whole, not_ok}
use Rattle.rly_folder_clients.proofs.getting.finish.Goals as goal

pub returns-in_err-keep : goal.returns-in_err-keep
returns-in_err-keep g c = rw (not_ok _ c.from_residual.ensures.0) (finish_cut g.F.Folder.state c.args.last c.args.number c.in_err-keep.ensures)

pub returns-in_err-remove : goal.returns-in_err-remove
returns-in_err-remove g c = rw (not_ok _ c.from_residual-in_err-remove.ensures.0)
    (finish_stops g.F.Folder.state c.args.last c.args.number c.in_ok-keep.ensures c.in_err-remove.ensures)

pub returns : goal.returns
returns g c = finish_whole g.F.Folder.state c.args.last c.args.number _ c.in_ok-keep.ensures c.in_ok-remove.ensures
