use Rattle.rly_line.proofs.Hearing.{waiting}
use Rattle.rly_line.proofs.seat_ends.SeatEnds.exchange.Goals as goal

pub returns-in-Some-clause-ok : goal.returns-in-Some-clause-ok
returns-in-Some-clause-ok g c =
    let waits =
    waiting _ _ c.args.batch _ c.requires.open c.requires.answered c.len-count.ensures.count c.len-count.ensures.some c.requires.whose c.requires.before
    c.in_default.ensures.put in
    (c.in-Some.ensures.answered _ waits).0

pub returns-in-Some-clause-answered : goal.returns-in-Some-clause-answered
returns-in-Some-clause-answered g c =
    let waits =
    waiting _ _ c.args.batch _ c.requires.open c.requires.answered c.len-count.ensures.count c.len-count.ensures.some c.requires.whose c.requires.before
    c.in_default.ensures.put in
    λ _. (c.in-Some.ensures.answered _ waits).1
