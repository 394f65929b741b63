use Rattle.std.proofs.Common.{arith}
use Rattle.rly_link_folder.proofs.Made.{not_ok}
use Rattle.rly_link_folder.proofs.Removals.{removes_fault, removes_one}
use Rattle.rly_link_folder.proofs.inbox_calls.remove_if_below.Goals as goal

pub returns-in_err-remove : goal.returns-in_err-remove
returns-in_err-remove g c = rw (not_ok _ c.from_residual.ensures.0)
    (removes_fault g.F.Folder.state c.args.custody c.args.number (omega (arith, c.if-number-custody.false)) c.in_err-remove.ensures.trace)

pub returns : goal.returns
returns g c =
    removes_one g.F.Folder.state c.args.custody c.args.number _ (omega (arith, c.if-number-custody.false)) c.in_ok-remove.ensures.trace
