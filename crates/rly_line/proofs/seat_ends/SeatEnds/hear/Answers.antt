use Rattle.std.proofs.Common.{subst, sym}
use Rattle.rly_line.specs.HelpersEnds.{IsWaiting}
use Rattle.rly_line.specs.Seats.{Caller}
use Rattle.rly_line.proofs.Hearing.{heard}
use Rattle.rly_line.proofs.seat_ends.SeatEnds.hear.Goals as goal

pub returns-clause-answered : goal.returns-clause-answered
returns-clause-answered g c =
    λ w waits.
    heard _ _ _ c.hear.new.self _ _ w _ _ c.self.invariant (subst (λ (x : Caller). IsWaiting w c.args.count x) (sym c.self.view_is) waits) c.hear.ensures.seat
    c.in-Some.ensures.heard c.in-Some.ensures.count
