use Rattle.rly_plan.proofs.LinkLaws.{count_stands}
use Rattle.rly_plan.proofs.laws.law_link_stands_while_closed.Goals as goal

pub returns : goal.returns
returns c = count_stands _ _ _ c.requires.order c.requires.closed
