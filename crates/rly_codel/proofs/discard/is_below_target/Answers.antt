use Rattle.rly_codel.proofs.Candidates.{stamp-le}
use Rattle.rly_codel.proofs.discard.is_below_target.Goals as goal

pub overflow_sub-sojourn_time : goal.overflow_sub-sojourn_time
overflow_sub-sojourn_time g c = stamp-le _ _ _ _ c.requires.index c.requires.stamps c.stamp.ensures
