use Rattle.rly_link_folder.proofs.Made.{not_ok}
use Rattle.rly_link_folder.proofs.Removals.{up_to_all, up_to_cut, up_to_last, up_to_sync}
use Rattle.rly_link_folder.proofs.inbox_calls.remove_up_to.Goals as goal

pub returns-in_err-remove_below : goal.returns-in_err-remove_below
returns-in_err-remove_below g c = rw (not_ok _ c.from_residual.ensures.0)
    (up_to_cut g.F.Folder.state c.args.custody c.args.numbers.now c.in_err-remove_below.ensures)

pub returns-in_err-sync : goal.returns-in_err-sync
returns-in_err-sync g c = rw (not_ok _ c.from_residual-in_err-sync.ensures.0)
    (up_to_sync g.F.Folder.state c.args.custody c.args.numbers.now c.in_ok-remove_below.ensures c.in_err-sync.ensures.trace)

pub returns-in_err-remove : goal.returns-in_err-remove
returns-in_err-remove g c = rw (not_ok _ c.from_residual-in_err-remove.ensures.0)
    (up_to_last g.F.Folder.state c.args.custody c.args.numbers.now c.in_ok-remove_below.ensures c.in_ok-sync.ensures.trace
    c.in_err-remove.ensures.trace)

pub returns : goal.returns
returns g c = up_to_all g.F.Folder.state c.args.custody c.args.numbers.now _ c.in_ok-remove_below.ensures c.in_ok-sync.ensures.trace
    c.in_ok-remove.ensures.trace
