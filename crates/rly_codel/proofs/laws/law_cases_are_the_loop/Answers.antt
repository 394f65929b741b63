use Rattle.rly_codel.proofs.LoopCases.{dequeue_by_loop-cases}
use Rattle.rly_codel.proofs.laws.law_cases_are_the_loop.Goals as goal

pub returns : goal.returns
returns c params now queue state = dequeue_by_loop-cases params now queue state
