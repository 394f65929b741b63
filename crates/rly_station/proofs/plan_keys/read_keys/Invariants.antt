use Rattle.std.proofs.Common.{◌≡◌, ◌++◌, map}
use Rattle.std.specs.Vec.Iter.{into_iter_items}
use Rattle.rly_station.specs.Keys.{folder_path_of, key_file_of, worker_and_file, worker_and_folder}
use Rattle.rly_station.specs.Workers.{workers_of}
use Rattle.rly_station.proofs.plan_keys.read_keys.Given as goal

-- the links so far, before those of the remaining workers: each with its key, and with its folder
abbrev pub invariant-loop-worker : goal.invariant-loop-worker
invariant-loop-worker g l =
    (map worker_and_file l.links.items ++ map (λ w. (w, key_file_of l.fn.plan w)) (into_iter_items l.worker-iterator)
    ≡ map (λ w. (w, key_file_of l.fn.plan w)) (workers_of l.fn.plan))
    × (map worker_and_folder l.links.items
    ++ map (λ w. (w, folder_path_of l.fn.path l.fn.plan w)) (into_iter_items l.worker-iterator)
    ≡ map (λ w. (w, folder_path_of l.fn.path l.fn.plan w)) (workers_of l.fn.plan))
