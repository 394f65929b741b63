use Rattle.rly_segment_checkpoint.proofs.Fitness.{inline_have}
use Rattle.rly_segment_checkpoint.proofs.restore.read_checkpoint.Goals as goal

pub returns-clause-only : goal.returns-clause-only
returns-clause-only c s sound plain given same = c.read_state.ensures.only s sound (inline_have s.hops) plain given same
