use Rattle.std.proofs.Common.{subst, sym}
use Rattle.rly_line.specs.HelpersEnds.{IsWaiting}
use Rattle.rly_line.specs.Seats.{Caller}
use Rattle.rly_line.proofs.Hearing.{heard}
use Rattle.rly_line.proofs.seat_ends.SeatEnds.try_hear.Goals as goal

pub returns-clause-found : goal.returns-clause-found
returns-clause-found g c =
    let given = rw c.in-Some.is at c.in_ok-found.ensures.found in
    λ w waits.
    heard _ _ _ c.try_hear.new.self _ _ w _ _ c.self.invariant (subst (λ (x : Caller). IsWaiting w c.args.count x) (sym c.self.view_is) waits) c.try_hear.ensures.seat
    given.2 given.0
