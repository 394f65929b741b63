use Rattle.rly_hop_pacing.proofs.LaterMoments.{next-later}
use Rattle.rly_hop_pacing.proofs.laws.law_next_moment_is_later.Goals as goal

pub returns : goal.returns
returns c p at wants fits idle = next-later p at wants fits idle
