use Rattle.std.proofs.Common.{◌≡◌, ◌∙◌, ◌∷◌, [], ap, arith, length, refl}
use Rattle.std.specs.List.{cons_option}
use Rattle.rly_hop.specs.Payloads.{out_action_bytes, out_event_bytes}
use Rattle.rly_threads_workers.specs.HelpersTurns.{answers_in, coming_in}
use Rattle.rly_threads_workers.specs.SenderTurns.{call_at, event_in}
use Rattle.rly_threads_workers.proofs.Senders.{coming_none, same_turns, telling_all, telling_more, telling_none}
use Rattle.rly_threads_workers.proofs.sender.SenderWorker.tell_all.Goals as goal

pub loop-place-init : goal.loop-place-init
loop-place-init g c =
    let was = c.args.calls.now in
    let begun = c.begin_answers-place-end.ensures in record {
      left = omega (arith, ap length begun.coming);
      turn = begun.same;
      asks = begun.asks;
      same = refl;
      telling = telling_none was.again.items (out_action_bytes was.named) c.args.is_open c.args.at c.args.ends.now c.args.self.now.pacing
          (answers_in was) (coming_in c.begin_answers-place-end.new.self) begun.coming;
    }

pub loop-place-preserved : goal.loop-place-preserved
loop-place-preserved g c =
    let before = c.loop-place.invariant in
    let was = c.args.calls.now in
    let named = out_action_bytes was.named in
    let taken = c.next_answer.ensures in
    let answer = c.in-Some.answer in
    let told = c.tell.ensures in
    let turn = same_turns was c.loop-place.calls c.next_answer.new.self before.turn taken.same in
    let first : coming_in c.loop-place.calls ≡ answer ∷ coming_in c.next_answer.new.self = taken.coming ∙ ap (λ o. cons_option o (coming_in c.next_answer.new.self)) c.in-Some.is in
    let call : out_action_bytes c.at.result ≡ call_at was.again.items named c.loop-place.place =
    c.at.ensures ∙ (λ i. call_at (turn.again i).items (out_action_bytes (turn.named i)) c.loop-place.place) in
    record {
      left = omega (arith, ap length first, before.left);
      turn = turn;
      asks = taken.asks ∙ before.asks;
      same = λ i. record (before.same i) { pacing = c.tell.new.self };
      telling = telling_more was.again.items named c.args.is_open c.args.at c.args.ends.now c.loop-place.ends c.tell.new.ends c.args.self.now.pacing c.loop-place.self.pacing c.tell.new.self
          (answers_in was) (coming_in c.loop-place.calls) (coming_in c.next_answer.new.self) c.loop-place.place answer (out_event_bytes c.event_in-event.result)
          before.telling first (c.event_in-event.ensures ∙ ap (λ x. event_in x answer.reply) call) told.state told.sent told.ends;
    }

pub returns-in_default-clause-idle : goal.returns-in_default-clause-idle
returns-in_default-clause-idle g c =
    let taken = c.next_answer.ensures in record {
      room = taken.same.room;
      asks = taken.asks ∙ c.loop-place.invariant.asks ∙ c.requires.asks;
      answers = coming_none c.next_answer.new.self (taken.last c.in_default.is);
    }

pub returns-in_default-clause-told : goal.returns-in_default-clause-told
returns-in_default-clause-told g c =
    let was = c.args.calls.now in
    let taken = c.next_answer.ensures in
    let none : coming_in c.loop-place.calls ≡ [] =
    taken.coming ∙ ap (λ o. cons_option o (coming_in c.next_answer.new.self)) c.in_default.is ∙ taken.last c.in_default.is in
    telling_all was.again.items (out_action_bytes was.named) c.args.is_open c.args.at c.args.ends.now c.loop-place.ends c.args.self.now.pacing c.loop-place.self.pacing
    (answers_in was) (coming_in c.loop-place.calls) c.loop-place.place c.loop-place.invariant.telling none
