use Rattle.std.proofs.Common.{◌∙◌, ◌+◌, ap}
use Rattle.rly_hop_pacing.specs.Moments.{sooner}
use Rattle.rly_hop_pacing.specs.NextMoments.{number_after}
use Rattle.rly_hop_pacing.proofs.Soonest.{soonest-more}
use Rattle.rly_hop_pacing.proofs.congestion_control.CongestionControl.again_after.Goals as goal

pub loop-place-preserved : goal.loop-place-preserved
loop-place-preserved c =
    let p = c.args.self.now in
    let covered = p.flight.covered in
    let place = c.loop-place.place in
    soonest-more (number_after p c.args.at) (covered + 1) place c.loop-place.first c.sooner_number-first.result c.loop-place.invariant
    (c.sooner_number-first.ensures
    ∙ ap (λ n. sooner c.loop-place.first (number_after p c.args.at n)) c.sent_number-number.ensures)
