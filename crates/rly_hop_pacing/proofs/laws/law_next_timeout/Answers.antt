use Rattle.std.proofs.Common.{◌∙◌}
use Rattle.rly_hop_pacing.proofs.NextMoments.{timeout-steady}
use Rattle.rly_hop_pacing.proofs.laws.law_next_timeout.Goals as goal

pub returns : goal.returns
returns c p at t later none before = timeout-steady p at t later before ∙ none
