use Rattle.std.proofs.Common.{◌≡◌, ℕ, List, Some, None, ◌∙◌, ap, subst, Bor}
use Rattle.std.specs.Prelude.{slice_get}
use Rattle.rly_hop.specs.declared.message.Message.{Message}
use Rattle.rly_hop.specs.declared.sending.event.OutEvent.TheVariants as event
use Rattle.rly_hop.specs.Sending.{sending_step}
use Rattle.rly_world.specs.PairWorld.{PairWorld, UpperHears, pair_step}
use Rattle.rly_world_pair.proofs.PairRelays.{heard_by_upper, item_found, item_missing, shown, unheard_by_upper}
use Rattle.rly_world_pair.proofs.relays.Pair.upper_hears.Goals as goal

pub returns-in-Some : goal.returns-in-Some
returns-in-Some c =
    let i = c.self.inside in
    let found = subst (λ (l : List (Message (List ℕ))). slice_get l c.args.packet ≡ Some c.in-Some.message.now) c.deref.ensures.value
    (item_found (λ (x : Bor (Message (List ℕ))). x.now) c.deref.result.now c.args.packet c.get.result c.in-Some.message c.in-Some.is c.get.ensures.lookup) in
    subst
    (λ (w : PairWorld). shown i.upper_params i.lower_params i.upper c.step-nothing.new.self i.lower i.receivers.items i.packets.items ≡ pair_step w (UpperHears c.args.packet))
    c.self.view_is
    (heard_by_upper (shown i.upper_params i.lower_params i.upper i.sender i.lower i.receivers.items i.packets.items) c.args.packet c.in-Some.message.now c.step-nothing.new.self found
    (c.step-nothing.ensures.state ∙ ap (λ (m : Message (List ℕ)). (sending_step i.sender (event.Heard m)).0) c.borrowed_message.ensures))

pub returns-in_default : goal.returns-in_default
returns-in_default c =
    let i = c.self.inside in
    let missing = subst (λ (l : List (Message (List ℕ))). slice_get l c.args.packet ≡ None) c.deref.ensures.value
    (item_missing (λ (x : Bor (Message (List ℕ))). x.now) c.deref.result.now c.args.packet c.get.result c.in_default.is c.get.ensures.lookup) in
    subst (λ (w : PairWorld). w ≡ pair_step w (UpperHears c.args.packet)) c.self.view_is
    (unheard_by_upper (shown i.upper_params i.lower_params i.upper i.sender i.lower i.receivers.items i.packets.items) c.args.packet missing)
