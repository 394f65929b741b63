use Rattle.rly_gate.proofs.Common.{cut_short, makes_front, makes_joined}
use Rattle.rly_gate.proofs.append.append_group.Goals as goal

pub returns-in_err-settle-clause-trace : goal.returns-in_err-settle-clause-trace
returns-in_err-settle-clause-trace g c = cut_short _ _ c.from_residual.ensures.0 (makes_front _ _ _ (rw c.fill_frame.ensures at c.in_err-settle.ensures))

pub returns-clause-trace : goal.returns-clause-trace
returns-clause-trace g c = makes_joined g.D.Disk.state _ _ _ (rw c.fill_frame.ensures at c.in_ok-settle.ensures) c.settle-2.ensures
