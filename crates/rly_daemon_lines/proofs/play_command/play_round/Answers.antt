use Rattle.std.proofs.Common.{◌≡◌, [], ap, refl}
use Rattle.std.specs.Io.KnownBytes.{prepend_known}
use Rattle.std.specs.String.{string_bytes}
use Rattle.std.proofs.lemmas.Result.{err_from_is_err_and}
use Rattle.rly_daemon_lines.specs.HelpersOutflow.{outflow_of}
use Rattle.rly_daemon_lines.proofs.Plays.{front_none, front_round, some_round}
use Rattle.rly_daemon_lines.proofs.Outflows.{begins_added}
use Rattle.rly_daemon_lines.proofs.play_command.play_round.Goals as goal

pub returns-in_err-full-clause-begun : goal.returns-in_err-full-clause-begun
returns-in_err-full-clause-begun g c =
    let failed = err_from_is_err_and c.from_residual.result c.from_residual.ensures.1 in
    rw failed.1 (front_none c.args.round.now.most g.D.Disk.state c.args.journal.now c.args.journal.now (prepend_known c.args.lines.now.ahead (g.R.Read.remaining c.args.reader.now))
    (outflow_of (g.W.Write.contents c.args.writer.now) (string_bytes c.args.text.now)) (outflow_of (g.W.Write.contents c.gather.new.writer) (string_bytes c.gather.new.text)) refl c.in_err-full.ensures.begun)

pub returns-in_err-answer-clause-begun : goal.returns-in_err-answer-clause-begun
returns-in_err-answer-clause-begun g c =
    let failed = err_from_is_err_and c.from_residual-in_err-answer.result c.from_residual-in_err-answer.ensures.1 in
    let begun = begins_added (outflow_of (g.W.Write.contents c.args.writer.now) (string_bytes c.args.text.now)) (outflow_of (g.W.Write.contents c.gather.new.writer) (string_bytes c.gather.new.text)) [] c.in_ok-full.ensures.same in
    rw failed.1 (front_none c.args.round.now.most g.D.Disk.state c.args.journal.now c.answer.new.journal (prepend_known c.args.lines.now.ahead (g.R.Read.remaining c.args.reader.now))
    (outflow_of (g.W.Write.contents c.args.writer.now) (string_bytes c.args.text.now)) (outflow_of (g.W.Write.contents c.gather.new.writer) (string_bytes c.gather.new.text)) c.in_err-answer.ensures.err begun)

pub returns-in_err-tell-clause-begun : goal.returns-in_err-tell-clause-begun
returns-in_err-tell-clause-begun g c =
    let failed = err_from_is_err_and c.from_residual-in_err-tell.result c.from_residual-in_err-tell.ensures.1 in
    let slots : c.answer.new.self.slots.items ≡ c.gather.new.self.slots.items = ap (λ v. v.items) c.in_ok-answer.ensures.slots in
    let begun = rw slots at c.in_err-tell.ensures.begun in
    rw failed.1 (front_round c.args.round.now.most g.D.Disk.state c.args.journal.now c.answer.new.journal (prepend_known c.args.lines.now.ahead (g.R.Read.remaining c.args.reader.now))
    (prepend_known c.gather.new.lines.ahead (g.R.Read.remaining c.gather.new.reader)) (outflow_of (g.W.Write.contents c.args.writer.now) (string_bytes c.args.text.now))
    (outflow_of (g.W.Write.contents c.gather.new.writer) (string_bytes c.gather.new.text)) (outflow_of (g.W.Write.contents c.tell.new.writer) (string_bytes c.tell.new.text))
    c.gather.new.self.slots.items c.gather.new.self.calls.items c.answer.new.self.answers.items
    c.in_ok-full.ensures.gathered c.in_ok-full.ensures.lines c.in_ok-answer.ensures.answered c.in_ok-answer.ensures.later c.in_ok-full.ensures.same begun)

pub returns-clause-played : goal.returns-clause-played
returns-clause-played g c =
    let slots : c.answer.new.self.slots.items ≡ c.gather.new.self.slots.items = ap (λ v. v.items) c.in_ok-answer.ensures.slots in
    let told = rw slots at c.in_ok-tell.ensures.told in
    some_round c.args.round.now.most g.D.Disk.state c.args.journal.now c.answer.new.journal (prepend_known c.args.lines.now.ahead (g.R.Read.remaining c.args.reader.now))
    (prepend_known c.gather.new.lines.ahead (g.R.Read.remaining c.gather.new.reader)) (outflow_of (g.W.Write.contents c.args.writer.now) (string_bytes c.args.text.now))
    (outflow_of (g.W.Write.contents c.gather.new.writer) (string_bytes c.gather.new.text)) (outflow_of (g.W.Write.contents c.tell.new.writer) (string_bytes c.tell.new.text))
    c.gather.new.self.slots.items c.gather.new.self.calls.items c.answer.new.self.answers.items
    c.in_ok-full.ensures.gathered c.in_ok-full.ensures.lines c.in_ok-answer.ensures.answered c.in_ok-answer.ensures.later c.in_ok-full.ensures.same told
