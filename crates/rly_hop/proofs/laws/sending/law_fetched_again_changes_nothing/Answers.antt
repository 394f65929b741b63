use Rattle.rly_hop.proofs.SendingLaws.{fetched-again}
use Rattle.rly_hop.proofs.laws.sending.law_fetched_again_changes_nothing.Goals as goal

pub returns : goal.returns
returns c s number limit payload below = fetched-again s number limit payload below
