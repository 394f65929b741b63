use Rattle.std.proofs.Common.{length, ◌++◌}
use Rattle.rly_machine.specs.Fold.{fold}
use Rattle.rly_machine.specs.State.{new_state}
use Rattle.rly_world.specs.PairPayloads.{picked_payloads}
use Rattle.rly_world.proofs.PairFetch.{hop_stays, picked_is_fetched}
use Rattle.rly_world.proofs.PairLists.{get_in_front}
use Rattle.rly_world.proofs.PairRuns.{flows_from_new, picked_append}
use Rattle.rly_world.proofs.pair_law.law_fetch.Goals as goal

pub returns : goal.returns
returns c params commands more hop k one there found kept =
    picked_is_fetched (fold length (new_state params) (commands ++ more)) hop k one
    (picked_payloads length hop (new_state params) (commands ++ more))
    (hop_stays length (new_state params) (commands ++ more) hop there)
    (flows_from_new length params (commands ++ more) hop there)
    (get_in_front _ _ k one (picked_append length hop (new_state params) commands more) found) kept
