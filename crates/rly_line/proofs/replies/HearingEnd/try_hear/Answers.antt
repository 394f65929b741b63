use Rattle.rly_line.proofs.Replying.{takes}
use Rattle.rly_line.proofs.replies.HearingEnd.try_hear.Goals as goal

pub try_recv_as-requires-clause-rule : goal.try_recv_as-requires-clause-rule
try_recv_as-requires-clause-rule g c = (takes _ _ c.self.invariant.1, λ _ _ _ _. tt)
