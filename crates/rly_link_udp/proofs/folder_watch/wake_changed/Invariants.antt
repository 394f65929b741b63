use Rattle.std.proofs.Common.{◌≡◌, ◌++◌, drop}
use Rattle.rly_link_udp.specs.FolderWatch.{rung_of, woken_in}
use Rattle.rly_link_udp.proofs.folder_watch.wake_changed.Given as goal

-- the workers woken so far, before those of the remaining folders
abbrev pub invariant-loop-folder : goal.invariant-loop-folder
invariant-loop-folder l =
    rung_of l.rung ++ woken_in l.now (drop l.folder-index l.folders) ≡ rung_of l.fn.rung ++ woken_in l.now l.folders
