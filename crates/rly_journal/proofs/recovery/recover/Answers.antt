use Rattle.rly_journal.proofs.Common.{err_from_is_err_and}
use Rattle.rly_journal.proofs.recovery.recover.Goals as goal

pub returns-in_err-found : goal.returns-in_err-found
returns-in_err-found g c =
    let told = err_from_is_err_and c.from_residual.result c.from_residual.ensures.1 in rw (told.1, told.2) c.in_err-found.ensures

pub returns-in_err-replay_group : goal.returns-in_err-replay_group
returns-in_err-replay_group g c =
    let told = err_from_is_err_and c.from_residual-in_err-replay_group.result c.from_residual-in_err-replay_group.ensures.1 in
    rw (told.1, told.2) (c.in_err-replay_group.ensures.read c.args.disk.now c.groups.invariant)

pub groups-preserved : goal.groups-preserved
groups-preserved g c = rw c.if-branch.true at (c.in_ok-replay_group.ensures.read c.args.disk.now c.groups.invariant)

pub returns : goal.returns
returns g c = rw c.if-branch.false at (c.in_ok-replay_group.ensures.read c.args.disk.now c.groups.invariant)
