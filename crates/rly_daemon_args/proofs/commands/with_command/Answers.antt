use Rattle.std.proofs.Common.{◌≡◌, subst}
use Rattle.std.proofs.lemmas.Result.{IfOk-weaker}
use Rattle.clap.specs.Words.{app_of}
use Rattle.rly_daemon_args.specs.HelpersBuilt.{IsBuilt}
use Rattle.rly_daemon_args.proofs.Apps.{with_below}
use Rattle.rly_daemon_args.proofs.commands.with_command.Goals as goal

pub returns : goal.returns
returns c = λ app found outer inner plain.
    let above : app_of c.in_ok-command.field-0 ≡ app = subst (λ r. IsBuilt app r) c.in_ok-command.was outer in
    let below : app_of c.in_ok-below.field-0 ≡ found = subst (λ r. IsBuilt found r) c.in_ok-below.was inner in
    IfOk-weaker c.subcommand.result _ _ (λ new added. with_below _ _ new app found added above below plain) c.subcommand.ensures
