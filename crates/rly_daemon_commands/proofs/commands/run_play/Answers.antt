use Rattle.std.proofs.Common.{rules}
use Rattle.rly_daemon_commands.proofs.commands.run_play.Goals as goal

pub returns : goal.returns
returns g c = record {
  played = record {
    opened = c.in_ok-journal.journal;
    behind = c.play.new.journal;
    whole = c.in_ok-journal.ensures.whole;
    goes = search rules;
    played = rw c.clamp-batch.ensures at c.in_ok-play.ensures.written;
  };
}
