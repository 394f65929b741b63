use Rattle.std.proofs.Common.{◌∙◌}
use Rattle.std.proofs.lemmas.List.{length-map}
use Rattle.rly_network_command.proofs.ReadLemmas.{devices_beside}
use Rattle.rly_network_command.proofs.network_check.run_network_check.Goals as goal

pub check_network-requires : goal.check_network-requires
check_network-requires g c =
    rw c.deref.ensures.value (devices_beside _ _ c.in_ok-devices.ensures ∙ length-map c.args.names.now _)

pub returns-clause-checked : goal.returns-clause-checked
returns-clause-checked g c =
    let it = c.in_ok-agree.ensures.checked in
    (c.deref.result.now, (rw c.deref.ensures.value c.in_ok-devices.ensures), (it.0, it.1))
