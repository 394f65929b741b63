use Rattle.rly_line.proofs.Replying.{puts}
use Rattle.rly_line.proofs.replies.ReplyEnd.tell_as.Goals as goal

pub send_as-requires-clause-rule : goal.send_as-requires-clause-rule
send_as-requires-clause-rule g c =
    let may = rw (← c.self.view_is) at c.requires.may in
    let tells = may c.if-self.false in (
      puts _ _ _ _ _ _ c.self.invariant.1 tells.base tells.legal tells.goes_on,
      λ _ _ _ _. tt,
    )
