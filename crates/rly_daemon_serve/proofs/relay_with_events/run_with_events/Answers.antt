use Rattle.std.proofs.Common.{rules}
use Rattle.rly_daemon_serve.proofs.Endless.{both_then, ok_then}
use Rattle.rly_daemon_serve.proofs.Outcomes.{same_ok, untouched}
use Rattle.rly_daemon_serve.proofs.relay_with_events.run_with_events.Goals as goal

-- the requirements of the closure, and after them that its captures may be sent and the runtime shared
pub scoped-outcome-requires : goal.scoped-outcome-requires
scoped-outcome-requires g c = record { at = λ scope. (c.requires.count, (c.requires.sound, (search rules, search rules, search rules, search rules, search rules, search rules, search rules))) }

pub returns-clause-nothing : goal.returns-clause-nothing
returns-clause-nothing g c = untouched (λ j. j.disk) c.args.journal c.scoped-outcome.result.0 c.served_of.result c.served_of.ensures.nothing c.scoped-outcome.ensures.1.1.1.1

pub returns-clause-end : goal.returns-clause-end
returns-clause-end g c = same_ok _ (λ s. s.end) c.scoped-outcome.result.0 c.served_of.result c.served_of.ensures.same c.scoped-outcome.ensures.1.0

pub returns-clause-fault : goal.returns-clause-fault
returns-clause-fault g c = ok_then c.served_of.result c.served_of.ensures.fault (λ served is. (_, is))

pub returns-clause-watched : goal.returns-clause-watched
returns-clause-watched g c =
    both_then c.served_of.result (same_ok _ (λ s. s.end) c.scoped-outcome.result.0 c.served_of.result c.served_of.ensures.same c.scoped-outcome.ensures.1.1.0)
    (same_ok _ (λ s. s.end) c.scoped-outcome.result.0 c.served_of.result c.served_of.ensures.same c.scoped-outcome.ensures.1.1.1.0) (λ served watched known. (watched, known))
