use Rattle.rly_daemon_events.proofs.LineLaws.{none_is_missing}
use Rattle.rly_daemon_events.proofs.laws.law_no_line_is_missing.Goals as goal

pub returns : goal.returns
returns c last look is = none_is_missing last look.is_open look.is_resting look.left look.lead is
