use Rattle.std.proofs.Common.{None, ◌∙◌}
use Rattle.rly_hop.specs.Receiving.{receiver}
use Rattle.rly_hop.specs.ReceivingRuns.{in_actions, last_take, receiver_after}
use Rattle.rly_hop.proofs.ReceivingLaws.{IsTaken-after, IsTaken-first, after-stations, received-custody}
use Rattle.rly_hop.proofs.laws.receiving.law_custody_follows_an_answer.Goals as goal

pub returns : goal.returns
returns c own peer from to before event n e =
    let taken = IsTaken-after (receiver own peer) None before (IsTaken-first own peer) in
    let stations = after-stations (receiver own peer) before in
    let due = received-custody (receiver_after (receiver own peer) before) (last_take None (in_actions (receiver own peer) before)) event from to n taken e in
    (due.0 ∙ stations.0, due.1 ∙ stations.1, due.2)
