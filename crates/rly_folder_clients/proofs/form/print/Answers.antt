use Rattle.rly_folder_clients.proofs.GettingLists.{always_err, not_flushed, rest_broken}
use Rattle.rly_folder_clients.proofs.form.print.Goals as goal

pub returns-in_err-write_whole-2-clause-begun : goal.returns-in_err-write_whole-2-clause-begun
returns-in_err-write_whole-2-clause-begun g c = always_err c.from_residual-in_err-write_whole-2.result
    (rw (← c.shown.ensures, ← c.behind.ensures) (rest_broken _ _ _ c.shown.result.now c.behind.result.now c.in_ok-write_whole.ensures.whole c.in_err-write_whole-2.ensures.begun))

pub returns-in-Err-clause-begun : goal.returns-in-Err-clause-begun
returns-in-Err-clause-begun g c = rw (← c.shown.ensures, ← c.behind.ensures)
    (not_flushed _ _ _ _ c.shown.result.now c.behind.result.now c.in_ok-write_whole.ensures.whole c.in_ok-write_whole-2.ensures.whole c.flush.ensures.bytes)
