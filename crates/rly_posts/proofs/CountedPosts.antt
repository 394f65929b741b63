-- The posts of a plan, counted.
use Rattle.std.proofs.Common.{◌≡◌, ℕ, ◌+◌, List, length, map, ap, sym, ◌∙◌}
use Rattle.std.proofs.lemmas.List.{length-map}
use Rattle.rly_posts.specs.Duties.{Duty, duties, duty_of}
use Rattle.rly_plan.specs.ContactPlan.{ContactPlan}
use Rattle.rly_station.proofs.CountedWorkers.{links_count, workers_count}
use Rattle.rly_station.specs.Keys.{AreKeysOf}
use Rattle.rly_station.specs.declared.plan_keys.KeyedWorker.{KeyedWorker}

-- there are as many posts as peers and hops
pub posts_count : {A : Type 0} (f : A → Duty) (posts : List A) (plan : ContactPlan) (links : List KeyedWorker)
    (longest turns : ℕ) → AreKeysOf plan links → map f posts ≡ duties plan links longest turns
    → length posts ≡ length plan.peers + length plan.hops
posts_count f posts plan links longest turns keys e =
    sym (length-map posts f) ∙ ap length e ∙ length-map links (duty_of plan longest turns)
    ∙ links_count plan links keys ∙ workers_count plan
