use Rattle.std.proofs.Common.{arith}
use Rattle.rly_machine.specs.Fold.{fold}
use Rattle.rly_machine.specs.State.{new_state}
use Rattle.rly_world.specs.PairPayloads.{taken_payloads}
use Rattle.rly_world.proofs.PairRuns.{taken_append, takes_from_new}
use Rattle.rly_world.proofs.pair_law.law_taken.Goals as goal

pub returns-clause-numbered : goal.returns-clause-numbered
returns-clause-numbered g c params commands peer there k x found =
    let at = (takes_from_new g.C.Content.length_of params commands peer there).numbered k x found in omega (arith, at)

pub returns-clause-last : goal.returns-clause-last
returns-clause-last g c params commands peer there =
    let at = (takes_from_new g.C.Content.length_of params commands peer there).last in omega (arith, at)

pub returns-clause-prefix : goal.returns-clause-prefix
returns-clause-prefix g c params commands more peer = (
  taken_payloads g.C.Content.length_of peer (fold g.C.Content.length_of (new_state params) commands) more,
  taken_append g.C.Content.length_of peer (new_state params) commands more,
)
