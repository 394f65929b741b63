use Rattle.std.proofs.Common.{◌∙◌, ◌+◌, ap, arith}
use Rattle.std.specs.Prelude.{if◌then◌else◌}
use Rattle.rly_hop_pacing.specs.CongestionControl.{is_on_way}
use Rattle.rly_hop_pacing.proofs.Numbers.{counted-more, filter-few}
use Rattle.rly_hop_pacing.proofs.congestion_control.CongestionControl.way_count.Goals as goal

pub loop-place-preserved : goal.loop-place-preserved
loop-place-preserved c =
    let p = c.args.self.now in
    let covered = p.flight.covered in
    let place = c.loop-place.place in
    counted-more (is_on_way p c.args.at) (covered + 1) place c.loop-place.count c.with_way-count.result c.loop-place.invariant
    (c.with_way-count.ensures ∙ ap (λ n. c.loop-place.count + (if is_on_way p c.args.at n then 1 else 0)) c.sent_number-number.ensures)

pub with_way-count-requires : goal.with_way-count-requires
with_way-count-requires c =
    omega (arith, c.loop-place.invariant, filter-few (is_on_way c.args.self.now c.args.at) (c.args.self.now.flight.covered + 1) c.loop-place.place, c.loop-place-test.true, c.sent_count-place-end.ensures)
