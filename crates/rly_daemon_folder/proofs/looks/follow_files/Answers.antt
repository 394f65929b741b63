use Rattle.std.proofs.Common.{refl}
use Rattle.rly_daemon_folder.proofs.LookLists.{looks_end, one_look}
use Rattle.rly_daemon_folder.proofs.looks.follow_files.Goals as goal

pub returns-then-left-eq0-clause-ok : goal.returns-then-left-eq0-clause-ok
returns-then-left-eq0-clause-ok g c = looks_end g.F.Folder.state c.args.form c.args.most _ _ _ _ _
    (one_look g.F.Folder.state c.args.form c.args.most c.loop-look.left c.in_ok-count.count _ _ _ _ _ _ _ c.loop-look.invariant c.in_ok-count.ensures.within refl
    c.in_ok-count.ensures.gets) c.if-left-eq0.true

pub loop-look-preserved : goal.loop-look-preserved
loop-look-preserved g c = one_look g.F.Folder.state c.args.form c.args.most c.loop-look.left c.in_ok-count.count _ _ _ _ _ _ _ c.loop-look.invariant
    c.in_ok-count.ensures.within refl c.in_ok-count.ensures.gets
