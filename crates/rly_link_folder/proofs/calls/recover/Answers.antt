use Rattle.std.proofs.Common.{arith}
use Rattle.rly_link_folder.proofs.Made.{on_err}
use Rattle.rly_link_folder.specs.OutboxCalls.{AtFirstList, AtKeeping, AtSecondList}
use Rattle.rly_link_folder.proofs.calls.recover.Goals as goal

pub returns-in_err-handed-clause-err : goal.returns-in_err-handed-clause-err
returns-in_err-handed-clause-err g c = on_err _ (AtFirstList _ c.in_ok-sync.ensures.trace c.in_err-handed.ensures.err)

pub returns-in_err-kept-clause-err : goal.returns-in_err-kept-clause-err
returns-in_err-kept-clause-err g c = on_err _ (AtSecondList _ _ _ c.in_ok-sync.ensures.trace c.in_ok-handed.ensures.ok c.in_err-kept.ensures.err)

pub returns-in_err-keep-clause-err : goal.returns-in_err-keep-clause-err
returns-in_err-keep-clause-err g c = on_err _ (AtKeeping _ _ _ _ _ c.in_ok-sync.ensures.trace c.in_ok-handed.ensures.ok c.in_ok-kept.ensures.ok
    (omega (arith, c.if-handed-kept.false)) c.in_err-keep.ensures)
