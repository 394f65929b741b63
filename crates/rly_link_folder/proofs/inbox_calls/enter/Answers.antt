use Rattle.rly_link_folder.proofs.Made.{on_err}
use Rattle.rly_link_folder.specs.Inbox.{AtNumber, AtRefusal}
use Rattle.rly_link_folder.proofs.inbox_calls.enter.Goals as goal

pub returns-in_err-number-in-Fits-clause-err : goal.returns-in_err-number-in-Fits-clause-err
returns-in_err-number-in-Fits-clause-err g c = on_err _ (AtNumber _ (rw c.in-Fits.is at c.in_ok-judge.ensures.ok) c.in_err-number-in-Fits.ensures.err)

pub returns-in_err-refuse-in-Refused-clause-err : goal.returns-in_err-refuse-in-Refused-clause-err
returns-in_err-refuse-in-Refused-clause-err g c =
    on_err _ (AtRefusal _ _ (rw c.in-Refused.is at c.in_ok-judge.ensures.ok) c.in_err-refuse-in-Refused.ensures.err)
