use Rattle.std.proofs.Common.{◌≡◌, ℕ, List, Some, sym, ◌∙◌, ap, subst, Bor, MutBor}
use Rattle.std.specs.Prelude.{slice_get, slice_set}
use Rattle.std.proofs.lemmas.Option.{none-some}
use Rattle.rly_hop.specs.declared.message.Message.{Message}
use Rattle.rly_hop.specs.declared.receiving.event.InAction.TheVariants as in_action
use Rattle.rly_hop.specs.Receiver.{Receiver}
use Rattle.rly_world.specs.PairEnd.{End}
use Rattle.rly_world.specs.PairWorld.{PairWorld, LowerHears, pair_step}
use Rattle.rly_world_pair.proofs.PairRelays.{forgotten_by_lower, heard_by_lower, item_found, passed_by_lower, shown}
use Rattle.rly_world_pair.proofs.relays.Pair.lower_hears.Goals as goal

pub returns-in_default-hear-clause-ok : goal.returns-in_default-hear-clause-ok
returns-in_default-hear-clause-ok c =
    let i = c.self.inside in
    let before = (shown i.upper_params i.lower_params i.upper i.sender i.lower i.receivers.items i.packets.items) in
    let m : Message (List ℕ) = c.in-Some.message.now in
    let r : Receiver = c.in-Some-get_mut.receiver.now in
    let found = subst (λ (l : List (Message (List ℕ))). slice_get l c.args.packet ≡ Some m) c.deref.ensures.value
    (item_found (λ (x : Bor (Message (List ℕ))). x.now) c.deref.result.now c.args.packet c.get.result c.in-Some.message c.in-Some.is c.get.ensures.lookup) in
    let there = item_found (λ (x : MutBor Receiver). x.now) i.receivers.items c.args.core c.get_mut.result c.in-Some-get_mut.receiver c.in-Some-get_mut.is c.get_mut.ensures.item in
    subst
    (λ (w : PairWorld). shown i.upper_params i.lower_params i.upper i.sender i.lower (slice_set i.receivers.items c.args.core c.hear.new.receiver) i.packets.items
    ≡ pair_step w (LowerHears c.args.packet c.args.core c.args.hop c.args.stamp))
    c.self.view_is
    (passed_by_lower before c.args.packet c.args.core c.args.hop c.args.stamp r c.hear.new.receiver m found there c.hear.ensures.state
    (λ number limit payload takes. none-some (in_action.Take number limit payload) (sym c.in_default-hear.ensures.named ∙ takes)))

pub returns-in-Ok-clause-ok : goal.returns-in-Ok-clause-ok
returns-in-Ok-clause-ok c =
    let i = c.self.inside in
    let before = (shown i.upper_params i.lower_params i.upper i.sender i.lower i.receivers.items i.packets.items) in
    let m : Message (List ℕ) = c.in-Some.message.now in
    let r : Receiver = c.in-Some-get_mut.receiver.now in
    let found = subst (λ (l : List (Message (List ℕ))). slice_get l c.args.packet ≡ Some m) c.deref.ensures.value
    (item_found (λ (x : Bor (Message (List ℕ))). x.now) c.deref.result.now c.args.packet c.get.result c.in-Some.message c.in-Some.is c.get.ensures.lookup) in
    let there = item_found (λ (x : MutBor Receiver). x.now) i.receivers.items c.args.core c.get_mut.result c.in-Some-get_mut.receiver c.in-Some-get_mut.is c.get_mut.ensures.item in
    subst
    (λ (w : PairWorld). shown i.upper_params i.lower_params i.upper i.sender c.ask.new.self (slice_set i.receivers.items c.args.core c.hear.new.receiver) i.packets.items
    ≡ pair_step w (LowerHears c.args.packet c.args.core c.args.hop c.args.stamp))
    c.self.view_is
    (ap (λ (e : End). shown i.upper_params i.lower_params i.upper i.sender e (slice_set i.receivers.items c.args.core c.hear.new.receiver) i.packets.items) c.in-Ok.ensures.asked
    ∙ heard_by_lower before c.args.packet c.args.core c.args.hop c.args.stamp r c.hear.new.receiver m c.in-Some-hear.number c.in-Some-hear.limit c.in-Some-hear.ensures.named.0 c.in_ok-payload.payload found there
    c.hear.ensures.state (sym c.in-Some-hear.ensures.named.1) (λ from to n l p is. c.in_ok-payload.ensures from to n l p is))

pub returns-clause-err : goal.returns-clause-err
returns-clause-err c =
    let i = c.self.inside in
    let before = (shown i.upper_params i.lower_params i.upper i.sender i.lower i.receivers.items i.packets.items) in
    let m : Message (List ℕ) = c.in-Some.message.now in
    let r : Receiver = c.in-Some-get_mut.receiver.now in
    let found = subst (λ (l : List (Message (List ℕ))). slice_get l c.args.packet ≡ Some m) c.deref.ensures.value
    (item_found (λ (x : Bor (Message (List ℕ))). x.now) c.deref.result.now c.args.packet c.get.result c.in-Some.message c.in-Some.is c.get.ensures.lookup) in
    let there = item_found (λ (x : MutBor Receiver). x.now) i.receivers.items c.args.core c.get_mut.result c.in-Some-get_mut.receiver c.in-Some-get_mut.is c.get_mut.ensures.item in
    ap (λ (e : End). shown i.upper_params i.lower_params i.upper i.sender e (slice_set i.receivers.items c.args.core c.step-nothing.new.self) i.packets.items) c.in-Err.ensures.err
    ∙ ap (λ (l : List Receiver). shown i.upper_params i.lower_params i.upper i.sender i.lower l i.packets.items)
    (forgotten_by_lower i.receivers.items c.args.core r c.hear.new.receiver c.step-nothing.new.self m (in_action.Take c.in-Some-hear.number c.in-Some-hear.limit c.in-Some-hear.ensures.named.0) there
    c.hear.ensures.state (sym c.in-Some-hear.ensures.named.1) c.step-nothing.ensures.state)
    ∙ c.self.view_is
