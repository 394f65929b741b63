use Rattle.std.proofs.Common.{◌∙◌}
use Rattle.rly_daemon_args.proofs.Builders.{about_told, help_told}
use Rattle.rly_daemon_args.proofs.commands.command_with_help.Goals as goal

pub returns : goal.returns
returns c =
    let about = about_told c.new.result c.about.result _ c.about.ensures in
    let help = help_told c.about.result c.after_help.result _ c.after_help.ensures in
    help ∙ about ∙ c.new.ensures.app
