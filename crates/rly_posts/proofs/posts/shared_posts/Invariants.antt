use Rattle.std.proofs.Common.{◌≡◌, ◌++◌, false, map, true}
use Rattle.std.specs.List.{list_all}
use Rattle.std.specs.Option.{is_none}
use Rattle.std.specs.Vec.Iter.{into_iter_items}
use Rattle.rly_link_udp.specs.FolderWatch.{path_of}
use Rattle.rly_posts.specs.Duties.{duties, duty_at, duty_of, refusal_at}
use Rattle.rly_posts.specs.WatchedFolders.{watched_by, watched_folders, watches}
use Rattle.rly_posts.proofs.posts.shared_posts.Given as goal

-- the workers so far, before the remaining ones
abbrev pub invariant-loop-link : goal.invariant-loop-link
invariant-loop-link g l =
    (map duty_at l.posts.items ++ map (duty_of l.fn.plan l.fn.longest l.fn.turns) (into_iter_items l.link-iterator)
    ≡ duties l.fn.plan l.fn.keys l.fn.longest l.fn.turns)
    × (map watches l.posts.items ++ map (watched_by (map path_of l.folders.items)) (into_iter_items l.link-iterator)
    ≡ map (watched_by (map path_of l.folders.items)) l.fn.keys)
    × (l.is_patient ≡ false → list_all is_none (map refusal_at l.posts.items) ≡ true)
