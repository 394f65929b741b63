use Rattle.rly_daemon.proofs.Outcomes.{always_ok}
use Rattle.rly_daemon.proofs.serve_command.relay_ended.Goals as goal

pub returns-in-None-clause-well : goal.returns-in-None-clause-well
returns-in-None-clause-well g c = always_ok c.report_end.result c.in-None.is
