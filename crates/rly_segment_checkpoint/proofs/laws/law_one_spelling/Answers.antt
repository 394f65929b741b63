use Rattle.rly_segment_checkpoint.proofs.Fitness.{one_spelled}
use Rattle.rly_segment_checkpoint.proofs.laws.law_one_spelling.Goals as goal

pub returns : goal.returns
returns g c which a b sound_a sound_b has_a has_b plain_a plain_b params same = one_spelled (c.law_forms.ensures which) a b sound_a sound_b has_a has_b plain_a plain_b params same
