use Rattle.rly_hop.specs.Sending.{sender}
use Rattle.rly_hop.specs.SendingRuns.{sender_after}
use Rattle.rly_hop.proofs.SendingLaws.{CanRepeat-from, passed-only, repeat-flight, repeat-is, sender-in_order, sender_after-in_order}
use Rattle.rly_hop.proofs.laws.sending.law_repeat_was_sent.Goals as goal

pub returns-clause-message : goal.returns-clause-message
returns-clause-message c own hop window events n limit payload action e = repeat-is own hop window events n limit payload action e

pub returns-clause-in_flight : goal.returns-clause-in_flight
returns-clause-in_flight c own hop window events n limit payload action e =
    let order = sender_after-in_order (sender own hop window) events (sender-in_order own hop window) in
    repeat-flight (sender_after (sender own hop window) events) n limit payload action order e

pub returns-clause-sent : goal.returns-clause-sent
returns-clause-sent c own hop window events n limit payload action e =
    passed-only own hop window events n (CanRepeat-from (sender_after (sender own hop window) events) n limit payload action e).passed
