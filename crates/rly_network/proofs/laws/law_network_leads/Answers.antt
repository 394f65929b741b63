use Rattle.rly_network.proofs.Arrivals.{any_leads, own_arrives}
use Rattle.rly_network.proofs.laws.law_network_leads.Goals as goal

pub returns-clause-own : goal.returns-clause-own
returns-clause-own c = own_arrives

pub returns-clause-any : goal.returns-clause-any
returns-clause-any c = any_leads
