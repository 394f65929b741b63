use Rattle.std.proofs.Common.{◌≡◌, [], ap}
use Rattle.std.specs.Io.KnownBytes.{prepend_known}
use Rattle.std.specs.String.{string_bytes}
use Rattle.std.proofs.lemmas.Result.{err_from_is_err_and}
use Rattle.rly_daemon_lines.proofs.Plays.{all_written, begins_all_lines, front_start, front_written}
use Rattle.rly_daemon_lines.proofs.Outflows.{both_ok, either_err}
use Rattle.rly_daemon_lines.specs.HelpersOutflow.{outflow_of}
use Rattle.rly_daemon_lines.proofs.play_command.play.Goals as goal

pub returns-in_err-lines-clause-begun : goal.returns-in_err-lines-clause-begun
returns-in_err-lines-clause-begun g c =
    let failed = err_from_is_err_and c.from_residual.result c.from_residual.ensures.1 in
    rw failed.1 (front_start c.args.batch g.D.Disk.state c.args.journal.now (g.R.Read.remaining c.args.reader.now) (g.W.Write.contents c.args.writer.now))

pub returns-in_err-round-clause-begun : goal.returns-in_err-round-clause-begun
returns-in_err-round-clause-begun g c =
    let failed = err_from_is_err_and c.from_residual-in_err-round.result c.from_residual-in_err-round.ensures.1 in
    rw failed.1 (front_start c.args.batch g.D.Disk.state c.args.journal.now (g.R.Read.remaining c.args.reader.now) (g.W.Write.contents c.args.writer.now))

pub returns-in_err-text-clause-begun : goal.returns-in_err-text-clause-begun
returns-in_err-text-clause-begun g c =
    let failed = err_from_is_err_and c.from_residual-in_err-text.result c.from_residual-in_err-text.ensures.1 in
    rw failed.1 (front_start c.args.batch g.D.Disk.state c.args.journal.now (g.R.Read.remaining c.args.reader.now) (g.W.Write.contents c.args.writer.now))

pub returns-clause-written : goal.returns-clause-written
returns-clause-written g c =
    let ahead : c.in_ok-lines.lines.ahead ≡ [] = ap (λ l. l.ahead) c.in_ok-lines.ensures in
    let written = all_written c.args.batch g.D.Disk.state c.args.journal.now c.play_lines-outcome.new.journal (g.R.Read.remaining c.args.reader.now) (g.W.Write.contents c.args.writer.now) (g.W.Write.contents c.play_lines-outcome.new.writer) (g.W.Write.contents c.finish.new.writer)
    c.in_ok-round.round.most c.in_ok-lines.lines.ahead (string_bytes c.in_ok-text.text) (string_bytes c.play_lines-outcome.new.text)
    c.in_ok-round.ensures.most ahead c.in_ok-text.ensures.empty in
    both_ok c.play_lines-outcome.result c.finish.result c.finish.ensures.ok c.play_lines-outcome.ensures.played c.finish.ensures.written written

pub returns-clause-begun : goal.returns-clause-begun
returns-clause-begun g c =
    let ahead : c.in_ok-lines.lines.ahead ≡ [] = ap (λ l. l.ahead) c.in_ok-lines.ensures in
    let all = begins_all_lines c.in_ok-round.round.most g.D.Disk.state c.args.journal.now c.play_lines-outcome.new.journal
    (prepend_known c.in_ok-lines.lines.ahead (g.R.Read.remaining c.args.reader.now)) (outflow_of (g.W.Write.contents c.args.writer.now) (string_bytes c.in_ok-text.text))
    (outflow_of (g.W.Write.contents c.play_lines-outcome.new.writer) (string_bytes c.play_lines-outcome.new.text)) in
    let begun = front_written c.args.batch g.D.Disk.state c.args.journal.now c.play_lines-outcome.new.journal (g.R.Read.remaining c.args.reader.now) (g.W.Write.contents c.args.writer.now) (g.W.Write.contents c.play_lines-outcome.new.writer) (g.W.Write.contents c.finish.new.writer)
    c.in_ok-round.round.most c.in_ok-lines.lines.ahead (string_bytes c.in_ok-text.text) (string_bytes c.play_lines-outcome.new.text)
    c.in_ok-round.ensures.most ahead c.in_ok-text.ensures.empty in
    either_err c.play_lines-outcome.result c.finish.result c.play_lines-outcome.ensures.played c.play_lines-outcome.ensures.begun c.finish.ensures.begun all begun
