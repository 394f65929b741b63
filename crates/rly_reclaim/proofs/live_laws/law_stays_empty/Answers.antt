use Rattle.rly_reclaim.proofs.Emptying.{stays_empty}
use Rattle.rly_reclaim.proofs.live_laws.law_stays_empty.Goals as goal

pub returns : goal.returns
returns c g segment s command none brought = stays_empty g segment s command none brought
