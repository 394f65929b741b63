use Rattle.std.proofs.Common.{◌∙◌, ◌+◌, sym}
use Rattle.rly_hop_pacing.specs.Scoreboards.{heard_if, is_told}
use Rattle.rly_hop_pacing.proofs.Numbers.{heard-more, heard-none}
use Rattle.rly_hop_pacing.proofs.scoreboard.Scoreboard.hear.Goals as goal

pub loop-place-init : goal.loop-place-init
loop-place-init c = sym (heard-none c.args.self.now (is_told c.args.last c.args.bits) c.args.at c.args.trip c.args.covered)

pub loop-place-preserved : goal.loop-place-preserved
loop-place-preserved c =
    let number = c.args.covered + c.loop-place.place + 1 in
    c.hear_if.ensures
    ∙ (λ i. heard_if (c.is_told.ensures i) (c.loop-place.invariant i) c.args.at c.args.trip number)
    ∙ sym (heard-more c.args.self.now (is_told c.args.last c.args.bits) c.args.at c.args.trip c.args.covered c.loop-place.place)
