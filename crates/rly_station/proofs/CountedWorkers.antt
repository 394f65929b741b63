-- The workers of a plan, counted.
use Rattle.std.proofs.Common.{◌≡◌, ℕ, ◌+◌, List, [], ◌∷◌, ◌++◌, length, ap, sym, ◌∙◌, arith}
use Rattle.std.proofs.lemmas.List.{length-append, length-map}
use Rattle.std.proofs.lemmas.List.FromFn.{length-map-range_with_len, map-range_with_len_more}
use Rattle.rly_station.specs.declared.plan_keys.KeyedWorker.{KeyedWorker}
use Rattle.rly_station.specs.Keys.{AreKeysOf, worker_and_file, key_file_of}
use Rattle.rly_station.specs.Workers.{receivers, senders, workers_of}
use Rattle.rly_plan.specs.ContactPlan.{ContactPlan}
use Rattle.rly_link.specs.declared.turn.Worker.TheVariants as worker

-- a receiver more
pub receivers_more : (count : ℕ) → receivers (count + 1) ≡ receivers count ++ worker.Receiver (record { 0 = count + 1 }) ∷ []
receivers_more count = map-range_with_len_more (λ id. worker.Receiver (record { 0 = id })) 1 count (count + 1) (omega arith)

-- a sender more
pub senders_more : (count : ℕ) → senders (count + 1) ≡ senders count ++ worker.Sender (record { 0 = count + 1 }) ∷ []
senders_more count = map-range_with_len_more (λ id. worker.Sender (record { 0 = id })) 1 count (count + 1) (omega arith)

-- there are as many workers as peers and hops
pub workers_count : (plan : ContactPlan) → length (workers_of plan) ≡ length plan.peers + length plan.hops
workers_count plan =
    let first : length (receivers (length plan.peers)) ≡ length plan.peers = length-map-range_with_len (λ id. worker.Receiver (record { 0 = id })) 1 (length plan.peers) in
    let second : length (senders (length plan.hops)) ≡ length plan.hops = length-map-range_with_len (λ id. worker.Sender (record { 0 = id })) 1 (length plan.hops) in
    grind (arith, length-append, first, second)

-- and as many links, whose keys are those of the plan
pub links_count : (plan : ContactPlan) (links : List KeyedWorker) → AreKeysOf plan links → length links ≡ length (workers_of plan)
links_count plan links e =
    sym (length-map links worker_and_file) ∙ ap length e ∙ length-map (workers_of plan) (λ w. (w, key_file_of plan w))
