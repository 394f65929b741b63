use Rattle.rly_daemon_args.specs.CommandLine.{get_app}
use Rattle.rly_daemon_args.proofs.commands.get.Goals as goal

pub returns : goal.returns
unfolding get_app
returns c =
    let folder = c.with_path-with_folder.ensures _ c.command_with_help-bare.ensures in
    let lines = c.with_arg-with_lines.ensures _ _ folder c.flag-lines.ensures.rule in
    let raw = c.with_arg-with_raw.ensures _ _ lines c.flag-raw.ensures.rule in
    let count = c.with_arg-with_count.ensures _ _ raw c.number-count.ensures.rule in
    c.with_arg.ensures _ _ count c.flag-follow.ensures.rule
