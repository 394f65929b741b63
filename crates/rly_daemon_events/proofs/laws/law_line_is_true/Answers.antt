use Rattle.rly_daemon_events.proofs.LineLaws.{line_is_true}
use Rattle.rly_daemon_events.proofs.laws.law_line_is_true.Goals as goal

pub returns : goal.returns
returns c last look event is = line_is_true last look.is_open look.is_resting look.left look.lead event is
