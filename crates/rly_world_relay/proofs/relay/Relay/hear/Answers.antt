use Rattle.std.proofs.Common.{◌∙◌, ◌<◌, ◌++◌, [], false, ap, length, subst, sym, rules}
use Rattle.rly_world.specs.RelaySteps.{Hears}
use Rattle.rly_world.specs.RelayWorld.{SeatView}
use Rattle.rly_world_relay.specs.HelpersSeats.{views_of}
use Rattle.rly_world_relay.specs.Relay.{Happened, IsOnly}
use Rattle.rly_world_relay.proofs.RelayReplies.{seat_there, there_in, views_set}
use Rattle.rly_world_relay.proofs.RelayShows.{hear_done}
use Rattle.rly_world_relay.proofs.relay.Relay.hear.Goals as goal

pub returns-clause-event : goal.returns-clause-event
returns-clause-event c =
    let there : c.from-index.result < length c.self.inside.seats.items = search rules in
    let first = seat_there c.self.inside.seats.items c.from-index.result c.index.result.now there c.index.ensures in
    let second = seat_there c.self.inside.seats.items c.from-index.result c.index_mut.result.now there c.index_mut.ensures.value in
    subst (λ s. Happened (IsOnly (Hears c.args.seat.0)) c.args.self.now
    (record { seats = s; line = c.self.inside.line.items; kept = c.self.inside.kept; spool = c.self.inside.spool }))
    (sym (views_set c.self.inside.seats.items c.from-index.result c.hear.new.self))
    (hear_done c.args.self.now
    (record { seats = views_of c.self.inside.seats.items; line = c.self.inside.line.items; kept = c.self.inside.kept; spool = c.self.inside.spool })
    c.args.seat.0 c.from-index.result c.hear.new.self.seat c.self.view_is (search rules) (there_in c.self.inside.seats.items c.from-index.result there)
    (λ none. c.has_replies.ensures.some c.if-not-has_replies.false (ap (λ (v : SeatView). v.replies) first ∙ none))
    (c.in_ok-hear.ensures.ok ∙ ap (λ (v : SeatView). record v { waits = false; replies = []; known = v.known ++ v.replies }) second))
