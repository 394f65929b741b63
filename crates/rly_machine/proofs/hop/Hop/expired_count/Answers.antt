use Rattle.std.proofs.Common.{arith, sym, ◌∙◌}
use Rattle.rly_machine.specs.Kept.{hop_state}
use Rattle.rly_machine.proofs.Expiring.{expired_before, expired_whole}
use Rattle.rly_machine.proofs.hop.Hop.expired_count.Goals as goal

pub returns-then-not-is_expired-clause-count : goal.returns-then-not-is_expired-clause-count
returns-then-not-is_expired-clause-count g c =
    expired_before (hop_state c.args.self.now) c.args.now c.max-moment.result c.loop-index.index c.item.result.now c.max-moment.ensures (omega arith) c.item.ensures
    c.loop-index.invariant (sym c.is_expired.ensures ∙ c.if-not-is_expired.true)

pub returns-clause-count : goal.returns-clause-count
returns-clause-count g c =
    c.len.ensures.count
    ∙ expired_whole (hop_state c.args.self.now) c.args.now c.max-moment.result c.max-moment.ensures (λ k d below. c.loop-index.invariant k d (omega arith))
