use Rattle.rly_daemon_args.specs.CommandLine.{put_app}
use Rattle.rly_daemon_args.proofs.commands.put.Goals as goal

pub returns : goal.returns
unfolding put_app
returns c =
    let folder = c.with_path-with_folder.ensures _ c.command_with_help-bare.ensures in
    let lines = c.with_arg-with_lines.ensures _ _ folder c.flag-lines.ensures.rule in
    let destination = c.with_arg-with_destination.ensures _ _ lines c.destination.ensures.rule in
    let limit = c.with_arg-with_limit.ensures _ _ destination c.limit.ensures.rule in
    c.with_arg.ensures _ _ limit c.number-wait.ensures.rule
