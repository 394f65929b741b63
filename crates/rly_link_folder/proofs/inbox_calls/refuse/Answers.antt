use Rattle.rly_link_folder.proofs.Made.{on_err}
use Rattle.rly_link_folder.specs.InboxCalls.{AtMove}
use Rattle.rly_link_folder.proofs.inbox_calls.refuse.Goals as goal

pub returns-in_err-number-clause-err : goal.returns-in_err-number-clause-err
returns-in_err-number-clause-err g c = on_err _ (AtMove _ _ c.in_ok-greatest.ensures.ok c.in_err-number.ensures.err)
