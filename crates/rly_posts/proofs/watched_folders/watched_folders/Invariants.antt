use Rattle.std.proofs.Common.{◌≡◌, ◌++◌, drop, map}
use Rattle.rly_link_udp.specs.FolderWatch.{path_of}
use Rattle.rly_posts.specs.WatchedFolders.{watched_folders}
use Rattle.rly_posts.proofs.watched_folders.watched_folders.Given as goal

-- the folders so far, before those of the remaining links
abbrev pub invariant-loop-link : goal.invariant-loop-link
invariant-loop-link l = map path_of l.found.items ++ watched_folders (drop l.link-index l.links) ≡ watched_folders l.links
