use Rattle.rly_hop.specs.Sending.{sender}
use Rattle.rly_hop.specs.SendingRuns.{sender_after}
use Rattle.rly_hop.proofs.SendingLaws.{given-only, sender-in_order, sender_after-in_order, sent-fetch}
use Rattle.rly_hop.proofs.laws.sending.law_fetch_was_given.Goals as goal

pub returns : goal.returns
returns c own hop window before event n e =
    given-only own hop window before n
    (sent-fetch (sender_after (sender own hop window) before) event n (sender_after-in_order (sender own hop window) before (sender-in_order own hop window)) e)
