use Rattle.std.proofs.Common.{◌∙◌, ◌+◌, ap}
use Rattle.std.specs.Prelude.{if◌then◌else◌, None, Some}
use Rattle.rly_hop_pacing.specs.CongestionControl.{first_option, is_missing}
use Rattle.rly_hop_pacing.proofs.Numbers.{first-more}
use Rattle.rly_hop_pacing.proofs.congestion_control.CongestionControl.first_missing.Goals as goal

pub loop-place-preserved : goal.loop-place-preserved
loop-place-preserved c =
    let p = c.args.self.now in
    let covered = p.flight.covered in
    let place = c.loop-place.place in
    first-more (is_missing p c.args.at) (covered + 1) place c.loop-place.found c.found_or_missing-found.result c.loop-place.invariant
    (c.found_or_missing-found.ensures
    ∙ ap (λ n. first_option c.loop-place.found (if is_missing p c.args.at n then Some n else None)) c.sent_number-number.ensures)
