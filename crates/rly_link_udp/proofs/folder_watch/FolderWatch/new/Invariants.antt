use Rattle.std.proofs.Common.{◌≡◌, map, take}
use Rattle.rly_link_udp.specs.FolderWatch.{path_of, seen_of, unseen}
use Rattle.rly_link_udp.proofs.folder_watch.FolderWatch.new.Given as goal

-- the folders so far, at which nobody looked
abbrev pub invariant-loop-folder : goal.invariant-loop-folder
invariant-loop-folder l =
    map seen_of l.watched.items ≡ map (λ f. unseen (path_of f)) (take l.folder-index l.folders)
