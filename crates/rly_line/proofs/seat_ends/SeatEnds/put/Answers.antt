use Rattle.rly_line.proofs.Hearing.{seated}
use Rattle.rly_line.proofs.seat_ends.SeatEnds.put.Goals as goal

pub invariant_of-self-2 : goal.invariant_of-self-2
invariant_of-self-2 g c = seated _ _ _ _ _ _ _ _ c.self.invariant c.len-count.ensures.count c.in_ok-put.ensures.put
