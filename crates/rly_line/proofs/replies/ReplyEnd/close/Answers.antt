use Rattle.rly_line.proofs.Replying.{closes}
use Rattle.rly_line.proofs.replies.ReplyEnd.close.Goals as goal

pub try_send_as-closed-requires-clause-rule : goal.try_send_as-closed-requires-clause-rule
try_send_as-closed-requires-clause-rule g c = (closes _ _ _, λ _ _ _ _. tt)
