use Rattle.std.proofs.Common.{None}
use Rattle.rly_daemon_events.specs.HopRuns.{events_in}
use Rattle.rly_daemon_events.proofs.Runs.{all_follow, alternate}
use Rattle.rly_daemon_events.proofs.laws.law_open_and_closed_alternate.Goals as goal

pub returns : goal.returns
returns c looks = alternate None (events_in None looks) (all_follow None looks)
