use Rattle.rly_daemon_args.specs.CommandLine.{audit_app}
use Rattle.rly_daemon_args.proofs.commands.audit.Goals as goal

pub returns : goal.returns
unfolding audit_app
returns c =
    let made = c.with_arg-with_made.ensures _ _ (c.with_path-with_file.ensures _ c.command_with_help-bare.ensures) c.flag-made.ensures.rule in
    c.with_arg.ensures _ _ made c.flag-copy.ensures.rule
