use Rattle.std.proofs.Common.{◌∙◌, ap}
use Rattle.rly_line.specs.declared.replies.ReplyView.{ReplyView}
use Rattle.rly_line.proofs.Replying.{learns, merges}
use Rattle.rly_line.proofs.replies.ReplyEnd.law_known.Goals as goal

pub absorb-requires-clause-rule : goal.absorb-requires-clause-rule
absorb-requires-clause-rule c = merges _ _ _ _ c.self.invariant.1 c.end.invariant.1

pub learn_as-requires-clause-rule : goal.learn_as-requires-clause-rule
learn_as-requires-clause-rule c =
    learns _ _ (ap (λ (v : ReplyView). v.tells) c.absorb.ensures.rule ∙ c.self.invariant.1) (ap (λ (v : ReplyView). v.hears) c.absorb.ensures.rule)
