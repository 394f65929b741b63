use Rattle.rly_daemon_args.specs.CommandLine.{network_app}
use Rattle.rly_daemon_args.proofs.commands.network.Goals as goal

pub returns : goal.returns
unfolding network_app
returns c =
    let act = c.with_path-with_act.ensures _ c.command_with_help-bare.ensures in
    let files = c.with_arg-with_files.ensures _ _ act c.paths-files.ensures.rule in
    c.with_arg.ensures _ _ files c.flag-changed.ensures.rule
