use Rattle.std.proofs.Common.{None}
use Rattle.rly_daemon_events.proofs.Runs.{all_follow}
use Rattle.rly_daemon_events.proofs.laws.law_lines_follow_each_other.Goals as goal

pub returns : goal.returns
returns c looks = all_follow None looks
