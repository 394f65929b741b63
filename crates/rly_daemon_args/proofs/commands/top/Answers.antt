use Rattle.std.proofs.Common.{◌∙◌, ap}
use Rattle.rly_daemon_args.specs.CommandLine.{rly_top}
use Rattle.rly_daemon_args.proofs.Builders.{about_told, command_wanted, version_told, with_help, with_required, with_version, words_wanted}
use Rattle.rly_daemon_args.proofs.commands.top.Goals as goal

pub returns : goal.returns
unfolding rly_top
returns c =
    let version = version_told c.new.result c.version.result _ c.version.ensures in
    let about = about_told c.version.result c.about.result _ c.about.ensures in
    let required = command_wanted c.about.result c.subcommand_required.result c.subcommand_required.ensures in
    let help = words_wanted c.subcommand_required.result c.arg_required_else_help.result c.arg_required_else_help.ensures in
    help ∙ ap with_help (required ∙ ap with_required (about ∙ version ∙ ap with_version c.new.ensures.app))
