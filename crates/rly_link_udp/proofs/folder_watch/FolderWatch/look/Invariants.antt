use Rattle.std.proofs.Common.{◌≡◌, ◌++◌, drop, map, take}
use Rattle.rly_link_udp.specs.FolderWatch.{asked_of, kept_of}
use Rattle.rly_link_udp.proofs.folder_watch.FolderWatch.look.Given as goal

-- the folders so far were looked at, and the others are as before
abbrev pub invariant-loop-folder : goal.invariant-loop-folder
invariant-loop-folder g l =
    map kept_of (take l.folder-index l.folder-items) ++ map asked_of (drop l.folder-index l.folder-items)
    ≡ map asked_of l.fn.self.folders.items
