use Rattle.rly_world.proofs.RelayBegins.{due_in_image}
use Rattle.rly_world.proofs.relay_law.law_due.Goals as goal

pub returns : goal.returns
returns c = due_in_image
