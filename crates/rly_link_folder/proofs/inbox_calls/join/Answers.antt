use Rattle.rly_link_folder.proofs.Made.{on_err}
use Rattle.rly_link_folder.specs.InboxCalls.{AtNames}
use Rattle.rly_link_folder.proofs.inbox_calls.join.Goals as goal

pub returns-in_err-numbers-clause-err : goal.returns-in_err-numbers-clause-err
returns-in_err-numbers-clause-err g c = on_err _ (AtNames _ c.in_ok-sync.ensures.trace c.in_err-numbers.ensures.trace)
