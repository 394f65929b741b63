use Rattle.rly_network_folder.proofs.Puts.{no_calls}
use Rattle.rly_network_command.proofs.network_write.refuse_lost_ids.Goals as goal

pub returns-in-Some-clause-none : goal.returns-in-Some-clause-none
returns-in-Some-clause-none g c = rw c.in-Some.is (no_calls _)

pub returns-clause-none : goal.returns-clause-none
returns-clause-none g c = rw c.in_default.is (c.in_ok-found.ensures.none c.if-found.false)
