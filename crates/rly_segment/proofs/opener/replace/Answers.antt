use Rattle.rly_segment.proofs.Common.{cut_short, makes_front, makes_joined, rules}
use Rattle.rly_segment.proofs.opener.replace.Goals as goal

pub returns-in_err-close_gate : goal.returns-in_err-close_gate
returns-in_err-close_gate g c = search (rules, cut_short g.D.Disk.state, makes_front g.D.Disk.state)

pub returns-in_err-settle : goal.returns-in_err-settle
returns-in_err-settle g c = cut_short _ _ c.from_residual-in_err-settle.ensures.0 (search (rules, makes_joined, makes_front))

pub returns : goal.returns
returns g c = search (rules, makes_joined g.D.Disk.state)
