use Rattle.rly_machine.proofs.Histories.{folds, legal_but_for_bytes}
use Rattle.rly_machine.proofs.history_law.law_history.Goals as goal

pub returns-clause-legal : goal.returns-clause-legal
returns-clause-legal c base history legal = legal_but_for_bytes 0 base history legal

pub returns-clause-state : goal.returns-clause-state
returns-clause-state c base history legal = (folds 0 base history legal).0

pub returns-clause-accepted : goal.returns-clause-accepted
returns-clause-accepted c base history legal = (folds 0 base history legal).1

pub returns-clause-position : goal.returns-clause-position
returns-clause-position c base history legal = (folds 0 base history legal).2
