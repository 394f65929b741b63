use Rattle.rly_daemon_folder.proofs.LookLists.{HasFollowed}
use Rattle.rly_daemon_folder.proofs.looks.follow_files.Given as goal

abbrev pub invariant-loop-look : goal.invariant-loop-look
invariant-loop-look g l = HasFollowed g.F.Folder.state l.form l.most l.left (g.W.Write.contents l.initial.out) (g.W.Write.contents l.out) l.initial.folder l.folder
