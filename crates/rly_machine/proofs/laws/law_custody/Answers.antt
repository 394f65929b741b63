use Rattle.std.proofs.Common.{ap}
use Rattle.rly_core.specs.declared.ids.HopId.{HopId}
use Rattle.rly_machine.specs.State.{new_state}
use Rattle.rly_machine.proofs.CustodyRuns.{custody_kept, taken_apart}
use Rattle.rly_machine.proofs.laws.law_custody.Goals as goal

pub returns-clause-kept : goal.returns-clause-kept
returns-clause-kept g c params commands hop there = custody_kept g.C.Content.length_of params commands hop there

pub returns-clause-apart : goal.returns-clause-apart
returns-clause-apart g c params commands hop other id differ =
    taken_apart g.C.Content.length_of hop other (λ same. differ (ap (λ n. (let made : HopId = record { 0 = n } in made)) same)) (new_state params) commands id
