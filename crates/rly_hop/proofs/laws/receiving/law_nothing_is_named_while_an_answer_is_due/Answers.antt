use Rattle.rly_hop.specs.Receiving.{receiving_step, receiver}
use Rattle.rly_hop.specs.ReceivingRuns.{receiver_after}
use Rattle.rly_hop.proofs.ReceivingLaws.{length-in_actions, received-take, silent}
use Rattle.rly_hop.proofs.laws.receiving.law_nothing_is_named_while_an_answer_is_due.Goals as goal

pub returns-clause-one : goal.returns-clause-one
returns-clause-one c own peer events = length-in_actions (receiver own peer) events

pub returns-clause-none : goal.returns-clause-none
returns-clause-none c own peer before heard event n limit payload e h =
    silent (receiving_step (receiver_after (receiver own peer) before) event).0 n heard (received-take (receiver_after (receiver own peer) before) event n limit payload e).1 h
