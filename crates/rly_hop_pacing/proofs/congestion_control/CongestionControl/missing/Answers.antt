use Rattle.std.proofs.Common.{◌∙◌, ◌+◌, ◌++◌, ◌∷◌, [], ap, arith, length}
use Rattle.std.specs.Prelude.{◌&&◌, if◌then◌else◌, nat_lt}
use Rattle.rly_hop_pacing.specs.CongestionControl.{is_missing}
use Rattle.rly_hop_pacing.proofs.Numbers.{listed-few, listed-more}
use Rattle.rly_hop_pacing.proofs.congestion_control.CongestionControl.missing.Goals as goal

pub loop-place-preserved : goal.loop-place-preserved
loop-place-preserved c =
    let p = c.args.self.now in
    let covered = p.flight.covered in
    let place = c.loop-place.place in
    let l = c.loop-place.numbers.items in
    listed-more (is_missing p c.args.at) c.args.most (covered + 1) place l c.add_missing.new.numbers.items c.loop-place.invariant
    (c.add_missing.ensures
    ∙ ap (λ n. if nat_lt (length l) c.args.most && is_missing p c.args.at n then l ++ n ∷ [] else l) c.sent_number-number.ensures)

pub add_missing-requires : goal.add_missing-requires
add_missing-requires c =
    omega (arith, listed-few (is_missing c.args.self.now c.args.at) c.args.most (c.args.self.now.flight.covered + 1) c.loop-place.place c.loop-place.numbers.items c.loop-place.invariant, c.loop-place-test.true, c.sent_count-place-end.ensures)
