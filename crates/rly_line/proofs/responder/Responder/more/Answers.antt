use Rattle.rly_line.proofs.ReplyHistories.{took_any}
use Rattle.rly_line.proofs.responder.Responder.more.Goals as goal

pub invariant_of-self : goal.invariant_of-self
invariant_of-self g c = took_any c.self.inside.line.over c.self.inside.line c.more.new.self c.self.inside.story c.more.result c.self.invariant c.more.ensures.taken c.more.ensures.none

pub returns-clause-holds : goal.returns-clause-holds
returns-clause-holds g c = took_any c.self.inside.line.over c.self.inside.line c.more.new.self c.self.inside.story c.more.result c.self.invariant c.more.ensures.taken c.more.ensures.none
