use Rattle.std.proofs.Common.{◌∙◌, ap}
use Rattle.rly_daemon_serve.specs.ServedRelay.{end_fault}
use Rattle.rly_daemon_serve.proofs.Endless.{and_true, both_then, ok_then}
use Rattle.rly_daemon_serve.proofs.Outcomes.{same_ok, untouched}
use Rattle.rly_daemon_serve.proofs.reported_relay.run_tallied.Goals as goal

pub returns-clause-nothing : goal.returns-clause-nothing
returns-clause-nothing g c = untouched (λ j. j.disk) c.args.journal c.run_reported-outcome.result c.served_of.result c.served_of.ensures.nothing c.run_reported-outcome.ensures.refused

pub returns-clause-end : goal.returns-clause-end
returns-clause-end g c = same_ok _ (λ s. s.end) c.run_reported-outcome.result c.served_of.result c.served_of.ensures.same c.run_reported-outcome.ensures.end

-- the rest of the station had its threads
pub returns-clause-fault : goal.returns-clause-fault
returns-clause-fault g c = ok_then c.served_of.result c.served_of.ensures.fault (λ served is. is ∙ ap (λ all. end_fault served.end.relayed.finished.broken all c.args.is_told) (and_true _))

pub returns-clause-watched : goal.returns-clause-watched
returns-clause-watched g c =
    both_then c.served_of.result (same_ok _ (λ s. s.end) c.run_reported-outcome.result c.served_of.result c.served_of.ensures.same c.run_reported-outcome.ensures.watched)
    (same_ok _ (λ s. s.end) c.run_reported-outcome.result c.served_of.result c.served_of.ensures.same c.run_reported-outcome.ensures.known) (λ served watched known. (watched, known))
