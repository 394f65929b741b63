use Rattle.std.proofs.Common.{◌∙◌, ◌<◌, ◌++◌, ◌∷◌, [], ◌+◌, true, ap, length, subst, sym, rules}
use Rattle.rly_world.specs.RelaySteps.{Put, calls_from}
use Rattle.rly_world.specs.RelayWorld.{SeatView}
use Rattle.rly_world_relay.specs.HelpersSeats.{views_of}
use Rattle.rly_world_relay.specs.Relay.{Happened, IsOnly}
use Rattle.rly_world_relay.proofs.RelayReplies.{seat_there, there_in, views_set}
use Rattle.rly_world_relay.proofs.RelayShows.{put_done}
use Rattle.rly_world_relay.proofs.relay.Relay.put.Goals as goal

pub returns-clause-event : goal.returns-clause-event
returns-clause-event c =
    let there : c.from-index.result < length c.self.inside.seats.items = search rules in
    let first = seat_there c.self.inside.seats.items c.from-index.result c.index.result.now there c.index.ensures in
    let second = seat_there c.self.inside.seats.items c.from-index.result c.index_mut.result.now there c.index_mut.ensures.value in
    subst (λ s. Happened (IsOnly (Put c.args.seat.0 c.args.asks.items)) c.args.self.now
    (record { seats = s; line = c.push_reserved.new.self.items; kept = c.self.inside.kept; spool = c.self.inside.spool }))
    (sym (views_set c.self.inside.seats.items c.from-index.result c.put.new.self))
    (put_done c.args.self.now
    (record { seats = views_of c.self.inside.seats.items; line = c.self.inside.line.items; kept = c.self.inside.kept; spool = c.self.inside.spool })
    c.args.seat.0 c.from-index.result c.args.asks.items c.put.new.self.seat c.in_ok-batch.batch c.push_reserved.new.self.items c.self.view_is (search rules)
    (there_in c.self.inside.seats.items c.from-index.result there) (ap (λ (v : SeatView). v.waits) (sym first) ∙ sym c.waits.ensures ∙ c.if-waits.false) (search rules)
    (c.in_ok-batch.ensures.ok ∙ ap (λ (v : SeatView). record v { asked = v.asked + length c.args.asks.items; waits = true }) second)
    (c.in_ok-batch.ensures.batch ∙ ap (λ (v : SeatView). calls_from c.args.seat.0 v.asked c.args.asks.items) second)
    (c.push_reserved.ensures.items ∙ ap (λ l. l ++ c.in_ok-batch.batch ∷ []) c.reserve.ensures.items))
