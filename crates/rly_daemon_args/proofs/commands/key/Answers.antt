use Rattle.rly_daemon_args.specs.CommandLine.{key_app}
use Rattle.rly_daemon_args.proofs.commands.key.Goals as goal

pub returns : goal.returns
unfolding key_app
returns c = c.command_with_help.ensures
