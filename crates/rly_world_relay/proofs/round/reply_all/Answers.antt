use Rattle.std.proofs.Common.{arith}
use Rattle.std_alloc.specs.Vec.Iter.{into_iter_items}
use Rattle.rly_world.specs.RelaySteps.{all_replied}
use Rattle.rly_world_relay.specs.HelpersSeats.{views_of}
use Rattle.rly_world_relay.proofs.RelayReplies.{replies_none, replies_there}
use Rattle.rly_world_relay.proofs.round.reply_all.Goals as goal

pub loop-answer-preserved-then-index-len : goal.loop-answer-preserved-then-index-len
loop-answer-preserved-then-index-len c =
    let next = replies_there c.loop-answer.seats.items c.in-Some.answer (into_iter_items c.loop-answer.answer-iterator) (into_iter_items c.next.new.self)
    c.from-index.result c.index_mut.result.now c.reply.new.self (all_replied (views_of c.args.seats.now.items) c.args.answers.items)
    c.in-Some.ensures.steps.0 c.loop-answer.invariant.2 c.loop-answer.invariant.3 c.from-index.ensures
    (omega (arith, c.if-index-len.true, c.len.ensures)) c.index_mut.ensures.value c.reply.ensures.seat c.reply.ensures.room in
    (tt, tt, next.0, next.1)

pub loop-answer-preserved-else-index-len : goal.loop-answer-preserved-else-index-len
loop-answer-preserved-else-index-len c =
    let next = replies_none c.loop-answer.seats.items c.in-Some.answer (into_iter_items c.loop-answer.answer-iterator) (into_iter_items c.next.new.self)
    (all_replied (views_of c.args.seats.now.items) c.args.answers.items) c.in-Some.ensures.steps.0 c.loop-answer.invariant.2 c.loop-answer.invariant.3
    (omega (arith, c.if-index-len.false, c.len.ensures, c.from-index.ensures)) in
    (tt, tt, next.0, next.1)

pub loop-answer-preserved-else-index-len-2 : goal.loop-answer-preserved-else-index-len-2
loop-answer-preserved-else-index-len-2 c =
    let next = replies_none c.loop-answer.seats.items c.in-Some.answer (into_iter_items c.loop-answer.answer-iterator) (into_iter_items c.next.new.self)
    (all_replied (views_of c.args.seats.now.items) c.args.answers.items) c.in-Some.ensures.steps.0 c.loop-answer.invariant.2 c.loop-answer.invariant.3
    (omega (arith, c.if-index-len.false, c.len.ensures, c.from-index.ensures)) in
    (tt, tt, next.0, next.1)

pub loop-answer-preserved-else-index-len-3 : goal.loop-answer-preserved-else-index-len-3
loop-answer-preserved-else-index-len-3 c =
    let next = replies_none c.loop-answer.seats.items c.in-Some.answer (into_iter_items c.loop-answer.answer-iterator) (into_iter_items c.next.new.self)
    (all_replied (views_of c.args.seats.now.items) c.args.answers.items) c.in-Some.ensures.steps.0 c.loop-answer.invariant.2 c.loop-answer.invariant.3
    (omega (arith, c.if-index-len.false, c.len.ensures, c.from-index.ensures)) in
    (tt, tt, next.0, next.1)

pub loop-answer-preserved : goal.loop-answer-preserved
loop-answer-preserved c =
    let next = replies_none c.loop-answer.seats.items c.in-Some.answer (into_iter_items c.loop-answer.answer-iterator) (into_iter_items c.next.new.self)
    (all_replied (views_of c.args.seats.now.items) c.args.answers.items) c.in-Some.ensures.steps.0 c.loop-answer.invariant.2 c.loop-answer.invariant.3
    (omega (arith, c.if-index-len.false, c.len.ensures, c.from-index.ensures)) in
    (tt, tt, next.0, next.1)
