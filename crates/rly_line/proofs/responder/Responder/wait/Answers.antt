use Rattle.std.proofs.Common.{true}
use Rattle.rly_line.proofs.ReplyHistories.{took_any}
use Rattle.rly_line.proofs.responder.Responder.wait.Goals as goal

pub invariant_of-self : goal.invariant_of-self
invariant_of-self g c = took_any true c.self.inside.line c.wait.new.self c.self.inside.story c.wait.result c.self.invariant c.wait.ensures.taken c.wait.ensures.none

pub returns-clause-holds : goal.returns-clause-holds
returns-clause-holds g c = took_any true c.self.inside.line c.wait.new.self c.self.inside.story c.wait.result c.self.invariant c.wait.ensures.taken c.wait.ensures.none
