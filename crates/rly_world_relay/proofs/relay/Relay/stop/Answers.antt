use Rattle.std.proofs.Common.{ap, arith, length}
use Rattle.std.proofs.lemmas.List.{length-map}
use Rattle.rly_world_relay.specs.HelpersSeats.{RoomySeat}
use Rattle.rly_world_relay.proofs.RelayReplies.{forgot_next}
use Rattle.rly_world_relay.proofs.relay.Relay.stop.Goals as goal

pub loop-seat-preserved : goal.loop-seat-preserved
loop-seat-preserved c =
    forgot_next c.loop-seat.seat-items c.args.self.now.seats c.loop-seat.seat-index c.forget.new.self
    (omega (
      arith,
      c.loop-seat-test.true,
      ap length c.deref_mut-seat-items.ensures.value,
      ap (λ r. length r.seats) c.self.view_is,
      length-map c.self.inside.seats.items (λ (s : RoomySeat). s.seat),
    ))
    c.forget.ensures c.loop-seat.invariant
