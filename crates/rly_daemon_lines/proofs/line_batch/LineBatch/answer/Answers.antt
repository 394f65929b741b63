use Rattle.rly_daemon_lines.proofs.Answered.{answered_ok}
use Rattle.rly_daemon_lines.proofs.line_batch.LineBatch.answer.Goals as goal

pub returns-clause-answered : goal.returns-clause-answered
returns-clause-answered g c =
    answered_ok g.D.Disk.state c.args.journal.now c.round.new.self c.args.self.now.calls.items c.round.result c.args.self.now.answers.items c.round.new.answers.items
    c.requires.none c.round.ensures.answers c.round.ensures.lost c.round.ensures.trace c.law_tail.ensures
