use Rattle.std.proofs.Common.{◌++◌, ◌∷◌, [], ◌∙◌, append_assoc, refl}
use Rattle.std.specs.Io.KnownBytes.{prepend_known}
use Rattle.std.specs.String.{string_bytes}
use Rattle.std.proofs.lemmas.Result.{err_from_is_err_and}
use Rattle.rly_daemon_lines.specs.HelpersOutflow.{outflow_of}
use Rattle.rly_daemon_lines.specs.Text.{answer_of}
use Rattle.rly_daemon_lines.proofs.Outflows.{adds_begins, adds_between, adds_held, begins_added, begins_between, begins_left}
use Rattle.rly_daemon_lines.proofs.Texts.{answers_line, begins_answer, begins_line}
use Rattle.rly_daemon_lines.proofs.simulation.answer_next.Goals as goal

pub returns-in_err-hand_on-clause-begun : goal.returns-in_err-hand_on-clause-begun
returns-in_err-hand_on-clause-begun g c =
    let failed = err_from_is_err_and c.from_residual.result c.from_residual.ensures.1 in
    rw failed.1 (begins_answer (prepend_known c.args.lines.now.ahead (g.R.Read.remaining c.args.reader.now)) (outflow_of (g.W.Write.contents c.args.writer.now) (string_bytes c.args.text.now))
    (outflow_of (g.W.Write.contents c.hand_on.new.writer) (string_bytes c.hand_on.new.text)) c.args.machine.now.state c.in_err-hand_on.ensures.begun)

pub returns-in_err-next_line-clause-begun : goal.returns-in_err-next_line-clause-begun
returns-in_err-next_line-clause-begun g c =
    let failed = err_from_is_err_and c.from_residual-in_err-next_line.result c.from_residual-in_err-next_line.ensures.1 in
    let begun = begins_added (outflow_of (g.W.Write.contents c.args.writer.now) (string_bytes c.args.text.now)) (outflow_of (g.W.Write.contents c.hand_on.new.writer) (string_bytes c.hand_on.new.text)) [] c.in_ok-hand_on.ensures.same in
    rw failed.1 (begins_answer (prepend_known c.args.lines.now.ahead (g.R.Read.remaining c.args.reader.now)) (outflow_of (g.W.Write.contents c.args.writer.now) (string_bytes c.args.text.now))
    (outflow_of (g.W.Write.contents c.hand_on.new.writer) (string_bytes c.hand_on.new.text)) c.args.machine.now.state begun)

pub returns-in_err-answer_line-clause-begun : goal.returns-in_err-answer_line-clause-begun
returns-in_err-answer_line-clause-begun g c =
    let failed = err_from_is_err_and c.from_residual-in_err-answer_line.result c.from_residual-in_err-answer_line.ensures.1 in
    let left = begins_left (g.W.Write.contents c.hand_on.new.writer) (string_bytes c.hand_on.new.text) (string_bytes c.answer_line.new.text) c.in_err-answer_line.ensures.left in
    let begun = adds_begins (outflow_of (g.W.Write.contents c.args.writer.now) (string_bytes c.args.text.now)) (outflow_of (g.W.Write.contents c.hand_on.new.writer) (string_bytes c.hand_on.new.text))
    (outflow_of (g.W.Write.contents c.hand_on.new.writer) (string_bytes c.answer_line.new.text)) [] [] c.in_ok-hand_on.ensures.same left in
    rw failed.1 (begins_answer (prepend_known c.args.lines.now.ahead (g.R.Read.remaining c.args.reader.now)) (outflow_of (g.W.Write.contents c.args.writer.now) (string_bytes c.args.text.now))
    (outflow_of (g.W.Write.contents c.hand_on.new.writer) (string_bytes c.answer_line.new.text)) c.args.machine.now.state begun)

pub returns-in_err-relieve-clause-begun : goal.returns-in_err-relieve-clause-begun
returns-in_err-relieve-clause-begun g c =
    let failed = err_from_is_err_and c.from_residual-in_err-relieve.result c.from_residual-in_err-relieve.ensures.1 in
    let line = rw c.if-not-branch.false at c.in_ok-next_line.ensures.line in
    let state = rw c.line.ensures at c.in_ok-answer_line.ensures.state in
    let reply = (answer_of c.args.machine.now.state c.next_line.new.self.line).1 ++ 10 ∷ [] in
    let added = rw c.line.ensures at c.in_ok-answer_line.ensures.text in
    let text = added ∙ append_assoc (string_bytes c.hand_on.new.text) (answer_of c.args.machine.now.state c.next_line.new.self.line).1 (10 ∷ []) in
    let held = adds_held (g.W.Write.contents c.hand_on.new.writer) (string_bytes c.hand_on.new.text) (string_bytes c.answer_line.new.text) reply text in
    let begun = begins_between (outflow_of (g.W.Write.contents c.args.writer.now) (string_bytes c.args.text.now)) (outflow_of (g.W.Write.contents c.hand_on.new.writer) (string_bytes c.hand_on.new.text))
    (outflow_of (g.W.Write.contents c.hand_on.new.writer) (string_bytes c.answer_line.new.text)) (outflow_of (g.W.Write.contents c.relieve.new.writer) (string_bytes c.relieve.new.text)) reply
    c.in_ok-hand_on.ensures.same held c.in_err-relieve.ensures.begun in
    rw failed.1 (begins_line (prepend_known c.args.lines.now.ahead (g.R.Read.remaining c.args.reader.now)) (prepend_known c.next_line.new.self.ahead (g.R.Read.remaining c.next_line.new.reader))
    (outflow_of (g.W.Write.contents c.args.writer.now) (string_bytes c.args.text.now)) (outflow_of (g.W.Write.contents c.relieve.new.writer) (string_bytes c.relieve.new.text))
    c.next_line.new.self.line reply c.args.machine.now.state c.answer_line.new.machine.state line state refl begun)

pub returns-clause-answered : goal.returns-clause-answered
returns-clause-answered g c =
    let line = rw c.if-not-branch.false at c.in_ok-next_line.ensures.line in
    let state = rw c.line.ensures at c.in_ok-answer_line.ensures.state in
    let reply = (answer_of c.args.machine.now.state c.next_line.new.self.line).1 ++ 10 ∷ [] in
    let added = rw c.line.ensures at c.in_ok-answer_line.ensures.text in
    let text = added ∙ append_assoc (string_bytes c.hand_on.new.text) (answer_of c.args.machine.now.state c.next_line.new.self.line).1 (10 ∷ []) in
    let held = adds_held (g.W.Write.contents c.hand_on.new.writer) (string_bytes c.hand_on.new.text) (string_bytes c.answer_line.new.text) reply text in
    let whole = adds_between (outflow_of (g.W.Write.contents c.args.writer.now) (string_bytes c.args.text.now)) (outflow_of (g.W.Write.contents c.hand_on.new.writer) (string_bytes c.hand_on.new.text))
    (outflow_of (g.W.Write.contents c.hand_on.new.writer) (string_bytes c.answer_line.new.text)) (outflow_of (g.W.Write.contents c.relieve.new.writer) (string_bytes c.relieve.new.text)) reply
    c.in_ok-hand_on.ensures.same held c.in_ok-relieve.ensures.same in
    answers_line (prepend_known c.args.lines.now.ahead (g.R.Read.remaining c.args.reader.now)) (prepend_known c.next_line.new.self.ahead (g.R.Read.remaining c.next_line.new.reader))
    (outflow_of (g.W.Write.contents c.args.writer.now) (string_bytes c.args.text.now)) (outflow_of (g.W.Write.contents c.relieve.new.writer) (string_bytes c.relieve.new.text))
    c.next_line.new.self.line reply c.args.machine.now.state c.answer_line.new.machine.state line state refl whole
