use Rattle.std.proofs.Common.{refl}
use Rattle.rly_link_folder.proofs.Made.{not_ok}
use Rattle.rly_link_folder.proofs.Removals.{removes_next, removes_stop}
use Rattle.rly_link_folder.proofs.inbox_calls.remove_below.Goals as goal

pub returns-in_err-remove_if_below : goal.returns-in_err-remove_if_below
returns-in_err-remove_if_below g c = rw (not_ok _ c.from_residual.ensures.0)
    (removes_stop g.F.Folder.state c.args.custody c.args.numbers.now c.loop-number.number-index _ c.loop-number-test.true refl
    c.loop-number.invariant c.in_err-remove_if_below.ensures)

pub loop-number-preserved : goal.loop-number-preserved
loop-number-preserved g c = removes_next g.F.Folder.state c.args.custody c.args.numbers.now c.loop-number.number-index _ c.loop-number-test.true refl
    c.loop-number.invariant c.in_ok-remove_if_below.ensures
