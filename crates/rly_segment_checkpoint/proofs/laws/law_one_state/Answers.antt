use Rattle.rly_segment_checkpoint.proofs.Fitness.{one_state}
use Rattle.rly_segment_checkpoint.proofs.laws.law_one_state.Goals as goal

pub returns : goal.returns
returns c a b sound_a sound_b params same = one_state a b sound_a sound_b params same
