use Rattle.std.proofs.Common.{Ok, ap, refl, ◌∙◌}
use Rattle.std.specs.Io.KnownBytes.{prepend_known}
use Rattle.std.specs.String.{string_bytes}
use Rattle.std.proofs.lemmas.Result.{err_from_is_err_and}
use Rattle.rly_daemon_lines.specs.HelpersOutflow.{outflow_of}
use Rattle.rly_daemon_lines.proofs.Plays.{some_all, some_front, some_more, some_none}
use Rattle.rly_daemon_lines.proofs.play_command.play_lines.Goals as goal

pub rounds-init : goal.rounds-init
rounds-init g c = (
  c.requires,
  some_none c.args.round.now.most g.D.Disk.state c.args.journal.now (prepend_known c.args.lines.now.ahead (g.R.Read.remaining c.args.reader.now)) (outflow_of (g.W.Write.contents c.args.writer.now) (string_bytes c.args.text.now)),
  refl,
)

pub rounds-preserved : goal.rounds-preserved
rounds-preserved g c = (
  c.in_ok-play_round.ensures.ready,
  some_more c.args.round.now.most g.D.Disk.state c.args.journal.now c.rounds.journal c.play_round.new.journal (prepend_known c.args.lines.now.ahead (g.R.Read.remaining c.args.reader.now))
      (prepend_known c.rounds.lines.ahead (g.R.Read.remaining c.rounds.reader)) (prepend_known c.play_round.new.lines.ahead (g.R.Read.remaining c.play_round.new.reader))
      (outflow_of (g.W.Write.contents c.args.writer.now) (string_bytes c.args.text.now)) (outflow_of (g.W.Write.contents c.rounds.writer) (string_bytes c.rounds.text))
      (outflow_of (g.W.Write.contents c.play_round.new.writer) (string_bytes c.play_round.new.text)) c.rounds.invariant.1 (rw c.rounds.invariant.2 at c.in_ok-play_round.ensures.played),
  c.in_ok-play_round.ensures.most ∙ c.rounds.invariant.2,
)

pub returns-in_err-play_round-clause-begun : goal.returns-in_err-play_round-clause-begun
returns-in_err-play_round-clause-begun g c =
    let failed = err_from_is_err_and c.from_residual.result c.from_residual.ensures.1 in
    rw failed.1 (some_front c.args.round.now.most g.D.Disk.state c.args.journal.now c.rounds.journal c.play_round.new.journal (prepend_known c.args.lines.now.ahead (g.R.Read.remaining c.args.reader.now))
    (prepend_known c.rounds.lines.ahead (g.R.Read.remaining c.rounds.reader)) (outflow_of (g.W.Write.contents c.args.writer.now) (string_bytes c.args.text.now))
    (outflow_of (g.W.Write.contents c.rounds.writer) (string_bytes c.rounds.text)) (outflow_of (g.W.Write.contents c.play_round.new.writer) (string_bytes c.play_round.new.text))
    c.rounds.invariant.1 (rw c.rounds.invariant.2 at c.in_err-play_round.ensures.begun))

pub returns-clause-played : goal.returns-clause-played
returns-clause-played g c =
    some_all c.args.round.now.most g.D.Disk.state c.args.journal.now c.rounds.journal c.play_round.new.journal (prepend_known c.args.lines.now.ahead (g.R.Read.remaining c.args.reader.now))
    (prepend_known c.rounds.lines.ahead (g.R.Read.remaining c.rounds.reader)) (prepend_known c.play_round.new.lines.ahead (g.R.Read.remaining c.play_round.new.reader))
    (outflow_of (g.W.Write.contents c.args.writer.now) (string_bytes c.args.text.now)) (outflow_of (g.W.Write.contents c.rounds.writer) (string_bytes c.rounds.text))
    (outflow_of (g.W.Write.contents c.play_round.new.writer) (string_bytes c.play_round.new.text)) c.rounds.invariant.1 (rw c.rounds.invariant.2 at c.in_ok-play_round.ensures.played)
    (c.in_ok-play_round.ensures.ended (ap Ok c.if-branch.false))
