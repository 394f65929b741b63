use Rattle.rly_plan.proofs.LinkLaws.{count_runs}
use Rattle.rly_plan.proofs.laws.law_link_runs_while_open.Goals as goal

pub returns : goal.returns
returns c = count_runs _ _ _ c.requires.order c.requires.opened
