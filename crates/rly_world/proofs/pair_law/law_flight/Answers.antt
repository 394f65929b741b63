use Rattle.std.proofs.Common.{ℕ, ◌≡◌, ◌-◌, ap, arith, drop, map, ◌∙◌}
use Rattle.rly_machine.specs.Fold.{fold}
use Rattle.rly_machine.specs.State.{hop_at, new_state}
use Rattle.rly_world.specs.PairPayloads.{number_and_payload, picked_payloads}
use Rattle.rly_world.proofs.PairRuns.{flows_from_new, picked_append}
use Rattle.rly_world.proofs.pair_law.law_flight.Goals as goal

pub returns-clause-numbered : goal.returns-clause-numbered
returns-clause-numbered g c params commands hop there k x found =
    let at = (flows_from_new g.C.Content.length_of params commands hop there).numbered k x found in omega (arith, at)

pub returns-clause-flight : goal.returns-clause-flight
returns-clause-flight g c params commands hop there =
    let len = g.C.Content.length_of in
    let released : ℕ = (hop_at (fold len (new_state params) commands) hop).released in
    (flows_from_new len params commands hop there).flight
    ∙ ap (λ n. drop n (map number_and_payload (picked_payloads len hop (new_state params) commands)))
    (let e : released - 0 ≡ released = omega arith in e)

pub returns-clause-released : goal.returns-clause-released
returns-clause-released g c params commands hop there =
    let at = (flows_from_new g.C.Content.length_of params commands hop there).within in omega (arith, at)

pub returns-clause-prefix : goal.returns-clause-prefix
returns-clause-prefix g c params commands more hop = (
  picked_payloads g.C.Content.length_of hop (fold g.C.Content.length_of (new_state params) commands) more,
  picked_append g.C.Content.length_of hop (new_state params) commands more,
)
