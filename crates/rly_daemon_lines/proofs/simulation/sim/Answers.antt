use Rattle.std.proofs.Common.{◌≡◌, [], ap}
use Rattle.std.specs.Io.KnownBytes.{prepend_known}
use Rattle.std.specs.String.{string_bytes}
use Rattle.rly_machine.specs.State.{new_state}
use Rattle.rly_daemon_lines.specs.HelpersOutflow.{outflow_of}
use Rattle.rly_daemon_lines.proofs.Outflows.{both_ok, either_err}
use Rattle.rly_daemon_lines.proofs.Texts.{begins_text, text_begun, text_written}
use Rattle.rly_daemon_lines.proofs.simulation.sim.Goals as goal

pub returns-clause-written : goal.returns-clause-written
returns-clause-written g c =
    let ahead : c.in_ok-lines.lines.ahead ≡ [] = ap (λ l. l.ahead) c.in_ok-lines.ensures in
    let written = text_written (g.R.Read.remaining c.args.reader.now) (g.W.Write.contents c.args.writer.now) (g.W.Write.contents c.answer_lines-outcome.new.writer) (g.W.Write.contents c.finish.new.writer)
    c.in_ok-lines.lines.ahead (string_bytes c.in_ok-text.text) (string_bytes c.answer_lines-outcome.new.text)
    c.in_ok-machine.machine.state (new_state c.args.params) ahead c.in_ok-text.ensures.empty c.in_ok-machine.ensures in
    both_ok c.answer_lines-outcome.result c.finish.result c.finish.ensures.ok c.answer_lines-outcome.ensures.answered c.finish.ensures.written written

pub returns-clause-begun : goal.returns-clause-begun
returns-clause-begun g c =
    let ahead : c.in_ok-lines.lines.ahead ≡ [] = ap (λ l. l.ahead) c.in_ok-lines.ensures in
    let all = begins_text (prepend_known c.in_ok-lines.lines.ahead (g.R.Read.remaining c.args.reader.now)) (outflow_of (g.W.Write.contents c.args.writer.now) (string_bytes c.in_ok-text.text))
    (outflow_of (g.W.Write.contents c.answer_lines-outcome.new.writer) (string_bytes c.answer_lines-outcome.new.text)) c.in_ok-machine.machine.state in
    let begun = text_begun (g.R.Read.remaining c.args.reader.now) (g.W.Write.contents c.args.writer.now) (g.W.Write.contents c.answer_lines-outcome.new.writer) (g.W.Write.contents c.finish.new.writer)
    c.in_ok-lines.lines.ahead (string_bytes c.in_ok-text.text) (string_bytes c.answer_lines-outcome.new.text)
    c.in_ok-machine.machine.state (new_state c.args.params) ahead c.in_ok-text.ensures.empty c.in_ok-machine.ensures in
    either_err c.answer_lines-outcome.result c.finish.result c.answer_lines-outcome.ensures.answered c.answer_lines-outcome.ensures.begun c.finish.ensures.begun all begun
