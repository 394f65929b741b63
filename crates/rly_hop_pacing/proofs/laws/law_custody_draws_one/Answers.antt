use Rattle.rly_hop_pacing.proofs.Custodies.{not_early, others, spare}
use Rattle.rly_hop_pacing.proofs.laws.law_custody_draws_one.Goals as goal

pub returns : goal.returns
returns c = record { others = others; spare = spare; early = not_early }
