use Rattle.std.proofs.Common.{◌∙◌, sym}
use Rattle.rly_daemon_args.proofs.Readings.{same_texts}
use Rattle.rly_daemon_args.proofs.command_line.last_words.Goals as goal

pub returns-then-eq : goal.returns-then-eq
returns-then-eq c = same_texts _ c.args.wanted.now (sym c.eq.ensures ∙ c.if-eq.true)
