use Rattle.std.proofs.Common.{◌≡◌, ◌∙◌, ◌-◌, ◌∷◌, [], ap, arith, inl, inr, length, refl, reverse, subst, sym, vec_len}
use Rattle.std.proofs.lemmas.List.{length-append, length-reverse, reverse-reverse, take_all}
use Rattle.std.specs.Vec.Iter.{drain_items}
use Rattle.rly_hop.specs.Receiving.{receiver}
use Rattle.rly_link.specs.LinkHistory.{TellsMore}
use Rattle.rly_threads_workers.specs.ReceiverTurns.{custody_packets}
use Rattle.rly_threads_workers.proofs.Grown.{tells_nothing}
use Rattle.rly_threads_workers.proofs.Receivers.{answering_all, answering_more, answering_none, first_of_reversed}
use Rattle.rly_threads_workers.proofs.receiver.ReceiverWorker.answer.Goals as goal

pub loop-answer-init : goal.loop-answer-init
loop-answer-init g c =
    let given : drain_items c.into_iter-answer-iterator.result ≡ c.args.takes.now.answers.items = ap drain_items c.into_iter-answer-iterator.ensures.into_iter_gives ∙ c.drain-answer-items.ensures.rest
    ∙ take_all (vec_len c.args.takes.now.answers - 0) c.args.takes.now.answers.items (omega (arith, c.args.takes.now.answers.ok.0)) in
    let waits = ap length c.reverse.ensures.items ∙ length-reverse c.args.takes.now.waiting.items in (
      tt,
      tt,
      record {
        each = (elim c.requires.each [ inl none ↦ omega (arith, ap length given, ap length none) | inr same ↦ omega (arith, ap length given, same, waits) ]);
        capacity = c.reverse.ensures.capacity;
        answering = answering_none c.args.ends.now
            c.args.takes.now.waiting.items (reverse c.reverse.new.self.items) c.args.takes.now.answers.items (drain_items c.into_iter-answer-iterator.result)
            (sym (ap reverse c.reverse.ensures.items ∙ reverse-reverse c.args.takes.now.waiting.items)) (sym given);
      },
    )

pub loop-answer-preserved-in-Some : goal.loop-answer-preserved-in-Some
loop-answer-preserved-in-Some g c =
    let before = c.loop-answer.invariant.2 in
    let steps = c.in-Some.ensures.steps in
    let told = c.tell-custody.ensures in
    let taken = c.take_last.ensures.items in (
      tt,
      tt,
      record {
        each = omega (arith, ap length steps.0, ap length taken, length-append c.take_last.new.self.items (c.take_last.result ∷ []), before.each);
        capacity = c.take_last.ensures.capacity ∙ before.capacity;
        answering = answering_more c.args.ends.now c.loop-answer.ends c.tell-custody.new.ends
            c.args.takes.now.waiting.items (reverse c.loop-answer.waiting.items) (reverse c.take_last.new.self.items) c.args.takes.now.answers.items
            (drain_items c.loop-answer.answer-iterator) (drain_items c.next.new.self) c.loop-answer.last c.tell-custody.result c.greater-last.result c.take_last.result c.in-Some.answer
            before.answering (first_of_reversed c.loop-answer.waiting.items c.take_last.new.self.items c.take_last.result taken) steps.0 told.sent told.woken told.same told.custody c.greater-last.ensures;
      },
    )

pub loop-answer-preserved-in-Some-2 : goal.loop-answer-preserved-in-Some-2
loop-answer-preserved-in-Some-2 g c =
    let before = c.loop-answer.invariant.2 in
    let steps = c.in-Some.ensures.steps in
    let told = c.tell-custody.ensures in
    let taken = c.take_last.ensures.items in (
      tt,
      tt,
      record {
        each = omega (arith, ap length steps.0, ap length taken, length-append c.take_last.new.self.items (c.take_last.result ∷ []), before.each);
        capacity = c.take_last.ensures.capacity ∙ before.capacity;
        answering = answering_more c.args.ends.now c.loop-answer.ends c.tell-custody.new.ends
            c.args.takes.now.waiting.items (reverse c.loop-answer.waiting.items) (reverse c.take_last.new.self.items) c.args.takes.now.answers.items
            (drain_items c.loop-answer.answer-iterator) (drain_items c.next.new.self) c.loop-answer.last c.tell-custody.result c.greater-last.result c.take_last.result c.in-Some.answer
            before.answering (first_of_reversed c.loop-answer.waiting.items c.take_last.new.self.items c.take_last.result taken) steps.0 told.sent told.woken told.same told.custody c.greater-last.ensures;
      },
    )

pub loop-answer-preserved-in-Some-3 : goal.loop-answer-preserved-in-Some-3
loop-answer-preserved-in-Some-3 g c =
    let before = c.loop-answer.invariant.2 in
    let steps = c.in-Some.ensures.steps in
    let told = c.tell-custody.ensures in
    let taken = c.take_last.ensures.items in (
      tt,
      tt,
      record {
        each = omega (arith, ap length steps.0, ap length taken, length-append c.take_last.new.self.items (c.take_last.result ∷ []), before.each);
        capacity = c.take_last.ensures.capacity ∙ before.capacity;
        answering = answering_more c.args.ends.now c.loop-answer.ends c.tell-custody.new.ends
            c.args.takes.now.waiting.items (reverse c.loop-answer.waiting.items) (reverse c.take_last.new.self.items) c.args.takes.now.answers.items
            (drain_items c.loop-answer.answer-iterator) (drain_items c.next.new.self) c.loop-answer.last c.tell-custody.result c.greater-last.result c.take_last.result c.in-Some.answer
            before.answering (first_of_reversed c.loop-answer.waiting.items c.take_last.new.self.items c.take_last.result taken) steps.0 told.sent told.woken told.same told.custody c.greater-last.ensures;
      },
    )

pub loop-answer-preserved : goal.loop-answer-preserved
loop-answer-preserved g c =
    let before = c.loop-answer.invariant.2 in
    let steps = c.in-Some.ensures.steps in
    let told = c.tell-custody.ensures in
    let taken = c.take_last.ensures.items in (
      tt,
      tt,
      record {
        each = omega (arith, ap length steps.0, ap length taken, length-append c.take_last.new.self.items (c.take_last.result ∷ []), before.each);
        capacity = c.take_last.ensures.capacity ∙ before.capacity;
        answering = answering_more c.args.ends.now c.loop-answer.ends c.tell-custody.new.ends
            c.args.takes.now.waiting.items (reverse c.loop-answer.waiting.items) (reverse c.take_last.new.self.items) c.args.takes.now.answers.items
            (drain_items c.loop-answer.answer-iterator) (drain_items c.next.new.self) c.loop-answer.last c.tell-custody.result c.greater-last.result c.take_last.result c.in-Some.answer
            before.answering (first_of_reversed c.loop-answer.waiting.items c.take_last.new.self.items c.take_last.result taken) steps.0 told.sent told.woken told.same told.custody c.greater-last.ensures;
      },
    )

pub returns-in_default-clause-done : goal.returns-in_default-clause-done
returns-in_default-clause-done g c =
    let r = receiver c.args.self.now.own c.args.self.now.station in
    let sent : TellsMore c.loop-answer.ends.sent c.loop-answer.ends.sent (custody_packets r c.loop-answer.last) =
    subst (λ l. TellsMore c.loop-answer.ends.sent c.loop-answer.ends.sent (custody_packets r l)) (sym c.in_default.is) (tells_nothing c.loop-answer.ends.sent) in
    answering_all r c.args.ends.now c.loop-answer.ends c.loop-answer.ends
    c.args.takes.now.waiting.items (reverse c.loop-answer.waiting.items) c.args.takes.now.answers.items (drain_items c.loop-answer.answer-iterator) c.loop-answer.last
    c.loop-answer.invariant.2.answering c.requires.each (inr c.in-None.ensures.steps.0) sent refl

pub returns-clause-done : goal.returns-clause-done
returns-clause-done g c =
    let r = receiver c.args.self.now.own c.args.self.now.station in
    let sent : TellsMore c.loop-answer.ends.sent c.send.new.self.sent (custody_packets r c.loop-answer.last) =
    subst (λ l. TellsMore c.loop-answer.ends.sent c.send.new.self.sent (custody_packets r l)) (sym c.in-Some-last.is) c.send.ensures.told in
    answering_all r c.args.ends.now c.loop-answer.ends c.send.new.self
    c.args.takes.now.waiting.items (reverse c.loop-answer.waiting.items) c.args.takes.now.answers.items (drain_items c.loop-answer.answer-iterator) c.loop-answer.last
    c.loop-answer.invariant.2.answering c.requires.each (inr c.in-None.ensures.steps.0) sent c.send.ensures.same
