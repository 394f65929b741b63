use Rattle.std.proofs.Common.{[]}
use Rattle.std.specs.String.{string_bytes}
use Rattle.std.proofs.lemmas.Result.{err_from_is_err_and}
use Rattle.rly_daemon_lines.specs.HelpersOutflow.{outflow_of}
use Rattle.rly_daemon_lines.proofs.Outflows.{begins_added}
use Rattle.rly_daemon_lines.proofs.line_batch.LineBatch.take_line.Goals as goal

pub returns-in_err-next_line-clause-begun : goal.returns-in_err-next_line-clause-begun
returns-in_err-next_line-clause-begun g c =
    let failed = err_from_is_err_and c.from_residual-in_err-next_line.result c.from_residual-in_err-next_line.ensures.1 in
    rw failed.1 (begins_added (outflow_of (g.W.Write.contents c.args.writer.now) (string_bytes c.args.text.now))
    (outflow_of (g.W.Write.contents c.hand_on.new.writer) (string_bytes c.hand_on.new.text)) [] c.in_ok-hand_on.ensures.same)

pub returns-in_err-ask-clause-begun : goal.returns-in_err-ask-clause-begun
returns-in_err-ask-clause-begun g c =
    let failed = err_from_is_err_and c.from_residual-in_err-ask.result c.from_residual-in_err-ask.ensures.1 in
    rw failed.1 (begins_added (outflow_of (g.W.Write.contents c.args.writer.now) (string_bytes c.args.text.now))
    (outflow_of (g.W.Write.contents c.hand_on.new.writer) (string_bytes c.hand_on.new.text)) [] c.in_ok-hand_on.ensures.same)
