use Rattle.std.proofs.Common.{◌∙◌, rules}
use Rattle.rly_world_relay.proofs.RelayReplies.{reserved_next, reserved_part, room_next}
use Rattle.std.proofs.Common.{set}
use Rattle.rly_world_relay.proofs.round.reserve.Goals as goal

pub returns-in_err-reserve-clause-same : goal.returns-in_err-reserve-clause-same
returns-in_err-reserve-clause-same c =
    reserved_part (set c.loop-seat.seat-items c.loop-seat.seat-index c.reserve.new.self) c.args.seats.now.items c.args.seats.now.len (search rules)
    (reserved_next c.loop-seat.seat-items c.loop-seat.seat-index c.seat-item.result c.reserve.new.self
    c.reserve.ensures.same ∙ c.loop-seat.invariant.0)

pub loop-seat-preserved : goal.loop-seat-preserved
loop-seat-preserved c = (
  reserved_next c.loop-seat.seat-items c.loop-seat.seat-index c.seat-item.result c.reserve.new.self
      c.reserve.ensures.same ∙ c.loop-seat.invariant.0,
  room_next 64 c.loop-seat.seat-items c.loop-seat.seat-index c.reserve.new.self c.in_ok-reserve.ensures.room c.loop-seat.invariant.1,
)
