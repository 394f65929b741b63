use Rattle.rly_line.proofs.Replying.{begins, forks}
use Rattle.rly_line.proofs.replies.reply_line_of.Goals as goal

pub bounded_with-requires-clause-rule : goal.bounded_with-requires-clause-rule
bounded_with-requires-clause-rule g c = begins

pub another-hearing-requires-clause-rule : goal.another-hearing-requires-clause-rule
another-hearing-requires-clause-rule g c = forks _ _ _ c.in_ok-tells.ensures.3
