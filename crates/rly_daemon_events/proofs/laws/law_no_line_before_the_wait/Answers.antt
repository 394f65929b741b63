use Rattle.rly_daemon_events.proofs.Waits.{waits_are, waits_forever}
use Rattle.rly_daemon_events.proofs.laws.law_no_line_before_the_wait.Goals as goal

pub returns-clause-waits : goal.returns-clause-waits
returns-clause-waits c plan hop now wait resting last sound none waits = waits_are plan hop now wait resting last sound none waits

pub returns-clause-never : goal.returns-clause-never
returns-clause-never c plan hop now resting last sound none waits = waits_forever plan hop now resting last sound none waits
