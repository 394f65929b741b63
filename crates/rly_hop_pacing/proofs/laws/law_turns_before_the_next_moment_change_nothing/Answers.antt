use Rattle.rly_hop_pacing.proofs.SkippedTurns.{same-state}
use Rattle.rly_hop_pacing.proofs.laws.law_turns_before_the_next_moment_change_nothing.Goals as goal

pub returns : goal.returns
returns c p at t wants later before = same-state p at t wants later before
