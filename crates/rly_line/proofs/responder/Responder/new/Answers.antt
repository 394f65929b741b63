use Rattle.rly_line.proofs.ReplyHistories.{at_first}
use Rattle.rly_line.proofs.responder.Responder.new.Goals as goal

pub invariant_of-result : goal.invariant_of-result
invariant_of-result g c = at_first c.args.line c.begin-story.result (g.T.HasState.state c.args.at.now) c.requires c.begin-story.ensures

pub returns-clause-holds : goal.returns-clause-holds
returns-clause-holds g c = at_first c.args.line c.begin-story.result (g.T.HasState.state c.args.at.now) c.requires c.begin-story.ensures
