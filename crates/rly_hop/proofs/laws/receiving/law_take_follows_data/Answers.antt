use Rattle.std.proofs.Common.{◌≡◌, subst}
use Rattle.rly_hop.specs.declared.message.StationId.{StationId}
use Rattle.rly_hop.specs.declared.message.Message.TheVariants as message
use Rattle.rly_hop.specs.declared.receiving.event.InEvent.TheVariants.{Heard}
use Rattle.rly_hop.specs.Receiving.{receiver}
use Rattle.rly_hop.specs.ReceivingRuns.{receiver_after}
use Rattle.rly_hop.proofs.ReceivingLaws.{after-stations, received-take}
use Rattle.rly_hop.proofs.laws.receiving.law_take_follows_data.Goals as goal

pub returns : goal.returns
returns c own peer before event n limit payload e =
    let stations = after-stations (receiver own peer) before in
    let take = received-take (receiver_after (receiver own peer) before) event n limit payload e in
    subst (λ (x : StationId). event ≡ Heard (message.Data peer x n limit payload)) stations.0
    (subst (λ (x : StationId). event ≡ Heard (message.Data x (receiver_after (receiver own peer) before).own n limit payload)) stations.1 take.0)
