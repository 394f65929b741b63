use Rattle.std.proofs.Common.{ℕ, List, Some, sym, ◌∙◌, ap, Bor}
use Rattle.rly_hop.specs.declared.message.Message.{Message}
use Rattle.rly_hop.specs.declared.receiving.event.InAction.{InAction}
use Rattle.rly_hop.specs.Payloads.{in_action_bytes}
use Rattle.rly_hop.specs.declared.receiving.event.InEvent.TheVariants as in_event
use Rattle.rly_hop.specs.Receiving.{receiving_step}
use Rattle.rly_world_pair.proofs.relays.hear.Goals as goal

pub returns-in-Some-Take-clause-named : goal.returns-in-Some-Take-clause-named
returns-in-Some-Take-clause-named c =
    (c.in-Some-Take.field-0-2.now, sym (ap (λ (x : InAction (Bor (List ℕ))). Some (in_action_bytes x)) (sym c.in-Some-Take.field-0-is) ∙ c.in-Some-Take.ensures.action ∙ ap (λ (m : Message (List ℕ)). (receiving_step c.args.receiver.now (in_event.Heard m)).1) c.borrowed_message.ensures))
