use Rattle.rly_daemon_args.specs.CommandLine.{plan_app}
use Rattle.rly_daemon_args.proofs.commands.plan.Goals as goal

pub returns : goal.returns
unfolding plan_app
returns c =
    let at = c.with_arg-with_at.ensures _ _ (c.with_path-with_file.ensures _ c.command_with_help-bare.ensures) c.at.ensures.rule in
    let device = c.with_arg-with_device.ensures _ _ at c.file_option-device.ensures.rule in
    c.with_arg.ensures _ _ device c.file_option-was.ensures.rule
