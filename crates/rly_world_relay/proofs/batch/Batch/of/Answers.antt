use Rattle.std.proofs.Common.{◌+◌, ◌++◌, ◌∷◌, [], ◌∙◌, ap, arith, length, sym, length-append}
use Rattle.std.proofs.lemmas.List.{append_assoc}
use Rattle.std_alloc.specs.Vec.Iter.{into_iter_items}
use Rattle.rly_world.specs.RelaySteps.{calls_from}
use Rattle.rly_world_relay.proofs.batch.Batch.of.Goals as goal

pub loop-ask-preserved : goal.loop-ask-preserved
loop-ask-preserved c =
    let rest = into_iter_items c.next.new.self in
    let cut = c.in-Some.ensures.steps.0 in
    let inv = c.loop-ask.invariant in (
      tt,
      tt,
      ap (λ l. l ++ calls_from c.args.seat.0 (c.loop-ask.number + 1) (into_iter_items c.next.new.self)) c.push_reserved.ensures.items
          ∙ append_assoc c.loop-ask.calls.items (record { seat = c.args.seat; number = c.loop-ask.number + 1; ask = c.in-Some.ask } ∷ []) (calls_from c.args.seat.0 (c.loop-ask.number + 1) (into_iter_items c.next.new.self))
          ∙ ap (λ l. c.loop-ask.calls.items ++ calls_from c.args.seat.0 c.loop-ask.number l) (sym cut)
          ∙ inv.2,
      omega (arith, ap length c.push_reserved.ensures.items, inv.3, ap length cut, c.push_reserved.ensures.capacity, length-append c.loop-ask.calls.items (record { seat = c.args.seat; number = c.loop-ask.number + 1; ask = c.in-Some.ask } ∷ [])),
      omega (arith, inv.4, ap length cut),
      omega (arith, ap length c.push_reserved.ensures.items, inv.5, ap length cut, length-append c.loop-ask.calls.items (record { seat = c.args.seat; number = c.loop-ask.number + 1; ask = c.in-Some.ask } ∷ [])),
    )
