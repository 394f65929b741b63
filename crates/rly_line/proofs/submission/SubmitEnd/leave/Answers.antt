use Rattle.rly_line.proofs.Submitting.{leaves}
use Rattle.rly_line.proofs.submission.SubmitEnd.leave.Goals as goal

pub send_as-told-requires-clause-rule : goal.send_as-told-requires-clause-rule
send_as-told-requires-clause-rule g c = (leaves _ _ _, λ _ _ _ _. tt)
