use Rattle.rly_daemon_events.proofs.LineLaws.{two_at_most}
use Rattle.rly_daemon_events.proofs.laws.law_two_lines_at_most.Goals as goal

pub returns : goal.returns
returns c last look first second is more = two_at_most last look.is_open look.is_resting look.left look.lead first is second more
