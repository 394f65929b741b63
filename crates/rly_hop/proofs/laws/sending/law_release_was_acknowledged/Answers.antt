use Rattle.rly_hop.specs.Sending.{sender}
use Rattle.rly_hop.specs.SendingRuns.{sender_after}
use Rattle.rly_hop.proofs.SendingLaws.{heard-only, sender-in_order, sender_after-in_order, sent-release}
use Rattle.rly_hop.proofs.laws.sending.law_release_was_acknowledged.Goals as goal

pub returns-clause-acknowledged : goal.returns-clause-acknowledged
returns-clause-acknowledged c own hop window before event n e =
    let order = sender_after-in_order (sender own hop window) before (sender-in_order own hop window) in
    heard-only own hop window before n (sent-release (sender_after (sender own hop window) before) event n order e).0

pub returns-clause-in_flight : goal.returns-clause-in_flight
returns-clause-in_flight c own hop window before event n e =
    let order = sender_after-in_order (sender own hop window) before (sender-in_order own hop window) in
    (sent-release (sender_after (sender own hop window) before) event n order e).1
