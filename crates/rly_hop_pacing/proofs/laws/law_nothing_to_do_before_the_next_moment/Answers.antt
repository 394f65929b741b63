use Rattle.rly_hop_pacing.proofs.NextWork.{idle-before}
use Rattle.rly_hop_pacing.proofs.laws.law_nothing_to_do_before_the_next_moment.Goals as goal

pub returns : goal.returns
returns c p at t wants later before = idle-before p at t wants later before
