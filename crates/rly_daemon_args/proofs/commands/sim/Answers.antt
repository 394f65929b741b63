use Rattle.rly_daemon_args.specs.CommandLine.{sim_app}
use Rattle.rly_daemon_args.proofs.commands.sim.Goals as goal

pub returns : goal.returns
unfolding sim_app
returns c = c.with_params.ensures _ c.command_with_help-bare.ensures
