use Rattle.rly_hop_pacing.proofs.LaterMoments.{idle-turn, same-work}
use Rattle.rly_hop_pacing.proofs.laws.law_turn_without_a_timeout.Goals as goal

pub returns : goal.returns
returns c = record { work = same-work; idle = idle-turn }
