use Rattle.rly_network.proofs.Steps.{step_more}
use Rattle.rly_network.proofs.paths.trouble_of.Goals as goal

pub loop-step-preserved : goal.loop-step-preserved
loop-step-preserved c =
    step_more c.args.stations.now c.args.to c.loop-step._step c.loop-step.at.now c.in-Ok.next.now c.loop-step.hop c.in-Ok.later _
    c.loop-step-test.true c.in-Ok.ensures.on c.loop-step.invariant
