use Rattle.rly_segment_checkpoint.proofs.Sizes.{checkpoint_length}
use Rattle.rly_segment_checkpoint.proofs.laws.law_length.Goals as goal

pub returns : goal.returns
returns c s sound = checkpoint_length s sound
