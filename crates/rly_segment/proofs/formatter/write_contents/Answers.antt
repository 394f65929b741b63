use Rattle.rly_segment.proofs.Common.{cut_short, makes_front, makes_joined, rules}
use Rattle.rly_segment.proofs.formatter.write_contents.Goals as goal

pub returns-in_err-close_gates : goal.returns-in_err-close_gates
returns-in_err-close_gates g c = search (rules, cut_short g.D.Disk.state, makes_front g.D.Disk.state)

pub returns-in_err-settle : goal.returns-in_err-settle
returns-in_err-settle g c =
    cut_short _ _ c.from_residual-in_err-settle.ensures.0 (makes_joined _ _ _ _ c.in_ok-close_gates.ensures (makes_front _ _ _ c.in_err-settle.ensures))

pub returns-in_err-settle-2 : goal.returns-in_err-settle-2
returns-in_err-settle-2 g c = cut_short _ _ c.from_residual-in_err-settle-2.ensures.0 (makes_joined _ _ _ _ c.in_ok-close_gates.ensures
    (makes_joined _ _ _ _ c.in_ok-settle.ensures (makes_front _ _ _ (rw c.header_fields.ensures at c.in_err-settle-2.ensures))))

pub returns : goal.returns
returns g c = rw (← c.header_fields.ensures) (search (rules, makes_joined g.D.Disk.state))
