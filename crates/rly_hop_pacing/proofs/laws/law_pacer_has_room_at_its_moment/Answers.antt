use Rattle.rly_hop_pacing.proofs.PacerMoments.{pacer-steady, pacer-then}
use Rattle.rly_hop_pacing.proofs.laws.law_pacer_has_room_at_its_moment.Goals as goal

pub returns : goal.returns
returns c = record { before = pacer-steady; then = pacer-then }
