use Rattle.rly_line.proofs.Replying.{takes}
use Rattle.rly_line.proofs.replies.HearingEnd.hear.Goals as goal

pub recv_as-requires-clause-rule : goal.recv_as-requires-clause-rule
recv_as-requires-clause-rule g c = (takes _ _ c.self.invariant.1, λ _ _ _ _. tt)
