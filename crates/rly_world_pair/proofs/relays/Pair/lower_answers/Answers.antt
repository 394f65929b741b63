use Rattle.std.proofs.Common.{◌≡◌, ◌++◌, ℕ, List, Some, sym, ◌∙◌, ap, subst, MutBor}
use Rattle.std.specs.Prelude.{slice_set}
use Rattle.rly_hop.specs.declared.message.Message.{Message}
use Rattle.rly_hop.specs.Receiver.{Receiver}
use Rattle.rly_world.specs.PairEnd.{Replied}
use Rattle.rly_world.specs.PairWorld.{PairWorld, LowerAnswers, pair_step, unless_failed}
use Rattle.rly_world_pair.specs.HelpersStation.{messages_of}
use Rattle.rly_world_pair.specs.PairSteps.{Answers}
use Rattle.rly_world_pair.specs.declared.calls.MadeCall.TheInside.{Inside}
use Rattle.rly_world_pair.proofs.PairRelays.{answered_by_lower, item_found, shown}
use Rattle.rly_world_pair.proofs.relays.Pair.lower_answers.Goals as goal

pub returns-clause-ok : goal.returns-clause-ok
returns-clause-ok c =
    let i = c.self.inside in
    let made = c.made-inside.inside.0 in
    let r : Replied = record { call = record { core = made.0.core; ask = made.0.ask }; reply = made.1.0; position = made.1.1.0 } in
    let r_is : r ≡ c.in-Some.made = ap (λ (x : Inside). (let one : Replied = record { call = x.call; reply = x.reply; position = x.position } in one)) c.made-inside.view_is ∙ c.made.view_is in
    let told = subst (Answers i.lower c.answer.new.self) (c.in-Some.is ∙ ap (λ (x : Replied). Some x) (sym r_is)) c.answer.ensures in
    let before = (shown i.upper_params i.lower_params i.upper i.sender i.lower i.receivers.items i.packets.items) in
    let found = item_found (λ (x : MutBor Receiver). x.now) i.receivers.items made.0.core c.get_mut.result c.in-Some-get_mut.receiver c.in-Some-get_mut.is c.get_mut.ensures.item in
    let packets = c.send.ensures ∙ ap (λ (l : List (Message (List ℕ))). l ++ unless_failed c.args.is_sent (messages_of c.tell_answer-sent.result)) c.in_ok-reserve.ensures.items
    ∙ ap (λ (l : List (Message (List ℕ))). i.packets.items ++ unless_failed c.args.is_sent l) c.tell_answer-sent.ensures.sent in
    subst
    (λ (w : PairWorld). shown i.upper_params i.lower_params i.upper i.sender c.answer.new.self (slice_set i.receivers.items made.0.core c.tell_answer-sent.new.receiver) c.send.new.packets.items
    ≡ pair_step w (LowerAnswers c.args.is_sent))
    c.self.view_is
    (answered_by_lower before c.answer.new.self r told.0 c.in-Some-get_mut.receiver.now c.tell_answer-sent.new.receiver c.args.is_sent c.send.new.packets.items told.1 told.2 found
    c.tell_answer-sent.ensures.state packets)
