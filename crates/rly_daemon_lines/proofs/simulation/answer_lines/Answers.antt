use Rattle.std.specs.Io.KnownBytes.{prepend_known}
use Rattle.std.specs.String.{string_bytes}
use Rattle.std.proofs.lemmas.Result.{err_from_is_err_and}
use Rattle.rly_daemon_lines.specs.HelpersOutflow.{outflow_of}
use Rattle.rly_daemon_lines.proofs.Texts.{answered_end, answered_more, answered_start, answered_stop}
use Rattle.rly_daemon_lines.proofs.simulation.answer_lines.Goals as goal

pub answers-init : goal.answers-init
answers-init g c = answered_start (prepend_known c.args.lines.now.ahead (g.R.Read.remaining c.args.reader.now)) (outflow_of (g.W.Write.contents c.args.writer.now) (string_bytes c.args.text.now)) c.args.machine.now.state

pub answers-preserved : goal.answers-preserved
answers-preserved g c =
    let answered = rw c.if-branch.true at c.in_ok-answer_next.ensures.answered in
    answered_more (prepend_known c.args.lines.now.ahead (g.R.Read.remaining c.args.reader.now)) (prepend_known c.answers.lines.ahead (g.R.Read.remaining c.answers.reader))
    (prepend_known c.answer_next.new.lines.ahead (g.R.Read.remaining c.answer_next.new.reader)) (outflow_of (g.W.Write.contents c.args.writer.now) (string_bytes c.args.text.now))
    (outflow_of (g.W.Write.contents c.answers.writer) (string_bytes c.answers.text)) (outflow_of (g.W.Write.contents c.answer_next.new.writer) (string_bytes c.answer_next.new.text))
    c.args.machine.now.state c.answers.machine.state c.answer_next.new.machine.state c.answers.invariant answered

pub returns-in_err-answer_next-clause-begun : goal.returns-in_err-answer_next-clause-begun
returns-in_err-answer_next-clause-begun g c =
    let failed = err_from_is_err_and c.from_residual.result c.from_residual.ensures.1 in
    rw failed.1 (answered_stop (prepend_known c.args.lines.now.ahead (g.R.Read.remaining c.args.reader.now)) (prepend_known c.answers.lines.ahead (g.R.Read.remaining c.answers.reader))
    (outflow_of (g.W.Write.contents c.args.writer.now) (string_bytes c.args.text.now)) (outflow_of (g.W.Write.contents c.answers.writer) (string_bytes c.answers.text)) (outflow_of (g.W.Write.contents c.answer_next.new.writer) (string_bytes c.answer_next.new.text))
    c.args.machine.now.state c.answers.machine.state c.answers.invariant c.in_err-answer_next.ensures.begun)

pub returns-clause-answered : goal.returns-clause-answered
returns-clause-answered g c =
    let none = rw c.if-branch.false at c.in_ok-answer_next.ensures.answered in
    answered_end (prepend_known c.args.lines.now.ahead (g.R.Read.remaining c.args.reader.now)) (prepend_known c.answers.lines.ahead (g.R.Read.remaining c.answers.reader))
    (prepend_known c.answer_next.new.lines.ahead (g.R.Read.remaining c.answer_next.new.reader)) (outflow_of (g.W.Write.contents c.args.writer.now) (string_bytes c.args.text.now))
    (outflow_of (g.W.Write.contents c.answers.writer) (string_bytes c.answers.text)) (outflow_of (g.W.Write.contents c.answer_next.new.writer) (string_bytes c.answer_next.new.text))
    c.args.machine.now.state c.answers.machine.state c.answer_next.new.machine.state c.answers.invariant none
