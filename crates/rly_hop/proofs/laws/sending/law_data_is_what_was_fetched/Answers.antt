use Rattle.std.proofs.Common.{◌∙◌}
use Rattle.rly_hop.specs.Sending.{sender}
use Rattle.rly_hop.specs.SendingRuns.{sender_after}
use Rattle.rly_hop.proofs.SendingLaws.{given-only, sender-in_order, sender_after-in_order, sender_after-stations, sent-data}
use Rattle.rly_hop.proofs.laws.sending.law_data_is_what_was_fetched.Goals as goal

pub returns-clause-fetched : goal.returns-clause-fetched
returns-clause-fetched c own hop from to window before event n limit payload e =
    let order = sender_after-in_order (sender own hop window) before (sender-in_order own hop window) in
    let stations = sender_after-stations (sender own hop window) before in
    let found = sent-data (sender_after (sender own hop window) before) event from to n limit payload order e in
    (found.0 ∙ stations.0, found.1 ∙ stations.1, found.2)

pub returns-clause-given : goal.returns-clause-given
returns-clause-given c own hop from to window before event n limit payload e =
    let order = sender_after-in_order (sender own hop window) before (sender-in_order own hop window) in
    given-only own hop window before n (sent-data (sender_after (sender own hop window) before) event from to n limit payload order e).3
