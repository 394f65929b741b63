use Rattle.std.proofs.Common.{ℕ, ◌≡◌, ◌-◌, ◌<◌, ◌≤◌, length, ap, arith, refl, sym, ◌∙◌}
use Rattle.rly_machine.specs.Kept.{hop_state}
use Rattle.rly_machine.specs.Relocate.{carried_at}
use Rattle.rly_machine.proofs.Relocating.{carried_at_second, flight_relocated, put_payload}
use Rattle.rly_machine.proofs.hop.Hop.relocate.Goals as goal

pub relocate-requires : goal.relocate-requires
relocate-requires g c =
    let len : g.row.C.Denot → ℕ = g.C.Content.length_of in
    let h = c.args.self.now in
    let past : length h.flight.items ≤ c.args.index = omega (arith, c.if-index-in_flight.false, c.len-in_flight.ensures) in
    let count : c.len-in_flight.result ≡ length h.flight.items = omega (arith, c.len-in_flight.ensures) in
    ap (λ n. carried_at len h.queue.items (c.args.index - n)) count
    ∙ sym (carried_at_second len h.flight.items h.queue.items c.args.index past) ∙ c.requires

pub returns-then-index-in_flight : goal.returns-then-index-in_flight
returns-then-index-in_flight g c =
    let h = c.args.self.now in
    let below : c.args.index < length h.flight.items = omega (arith, c.if-index-in_flight.true, c.len-in_flight.ensures) in
    flight_relocated (hop_state h) c.args.index c.args.content _ below
    (put_payload h.flight.items c.args.index c.index_mut.result.now _ c.args.content c.index_mut.ensures.value refl)
