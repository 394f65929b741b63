use Rattle.rly_hop_pacing.proofs.RateLaws.{burst-bound}
use Rattle.rly_hop_pacing.proofs.rate.law_rate_is_kept.Goals as goal

pub returns : goal.returns
returns c b first later = burst-bound b first later
