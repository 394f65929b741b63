use Rattle.std.proofs.Common.{◌≡◌, ◌++◌, ◌∷◌, [], ℕ, List, Bool, Some, sym, ◌∙◌, ap, subst, Bor}
use Rattle.rly_hop.specs.declared.message.Message.{Message}
use Rattle.rly_hop.specs.declared.sending.event.OutEvent.{OutEvent}
use Rattle.rly_hop.specs.declared.sending.event.OutAction.{OutAction}
use Rattle.rly_hop.specs.Payloads.{message_bytes, out_action_bytes}
use Rattle.rly_hop.specs.Sending.{sending_step}
use Rattle.rly_world.specs.PairEnd.{Replied}
use Rattle.rly_world.specs.PairWorld.{PairWorld, UpperAnswers, pair_step}
use Rattle.rly_world_pair.specs.PairSteps.{Answers}
use Rattle.rly_world_pair.specs.declared.calls.MadeCall.TheInside.{Inside}
use Rattle.rly_world_pair.proofs.PairRelays.{sent_by_upper, shown}
use Rattle.rly_world_pair.proofs.relays.Pair.upper_answers.Goals as goal

pub returns-in-Some-Send-clause-ok : goal.returns-in-Some-Send-clause-ok
returns-in-Some-Send-clause-ok c =
    let i = c.self.inside in
    let made = c.made-inside.inside.0 in
    let r : Replied = record { call = record { core = made.0.core; ask = made.0.ask }; reply = made.1.0; position = made.1.1.0 } in
    let r_is : r ≡ c.in-Some.made = ap (λ (x : Inside). (let one : Replied = record { call = x.call; reply = x.reply; position = x.position } in one)) c.made-inside.view_is ∙ c.made.view_is in
    let told = subst (Answers i.upper c.answer.new.self) (c.in-Some.is ∙ ap (λ (x : Replied). Some x) (sym r_is)) c.answer.ensures in
    let m : Message (List ℕ) = message_bytes c.in-Some-Send.message in
    let before = (shown i.upper_params i.lower_params i.upper i.sender i.lower i.receivers.items i.packets.items) in
    let sent = sent_by_upper before c.answer.new.self r told.0 c.step.new.self m c.in_ok-payload.payload told.1 told.2
    (c.step.ensures.state ∙ ap (λ (x : OutEvent (List ℕ)). (sending_step i.sender x).0) c.sender_event-event.ensures)
    (ap (λ (x : OutAction (Bor (List ℕ))). Some (out_action_bytes x)) (sym c.in-Some-Send.field-0-is) ∙ c.in-Some-Send.ensures.action ∙ ap (λ (x : OutEvent (List ℕ)). (sending_step i.sender x).1) c.sender_event-event.ensures)
    (λ p limit gives. c.in_ok-payload.ensures r told.0 p limit told.1 gives) in
    let packets = c.push_reserved.ensures.items ∙ ap (λ (l : List (Message (List ℕ))). l ++ c.owned_message.result ∷ []) c.in_ok-reserve.ensures.items
    ∙ ap (λ (x : Message (List ℕ)). i.packets.items ++ x ∷ []) c.owned_message.ensures in
    subst
    (λ (w : PairWorld). shown i.upper_params i.lower_params c.answer.new.self c.step.new.self i.lower i.receivers.items c.push_reserved.new.self.items
    ≡ pair_step w (UpperAnswers c.args.is_sent))
    c.self.view_is
    (ap (λ (l : List (Message (List ℕ))). shown i.upper_params i.lower_params c.answer.new.self c.step.new.self i.lower i.receivers.items l) packets
    ∙ sent ∙ ap (λ (b : Bool). pair_step before (UpperAnswers b)) (sym c.if-is_sent.true))
