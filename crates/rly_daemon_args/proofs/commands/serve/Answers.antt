use Rattle.rly_daemon_args.specs.CommandLine.{serve_app}
use Rattle.rly_daemon_args.proofs.commands.serve.Goals as goal

pub returns : goal.returns
unfolding serve_app
returns c =
    let files = c.with_path-with_plan.ensures _ (c.with_path-with_file.ensures _ c.command_with_help-bare.ensures) in
    let report = c.with_option-with_report.ensures _ (c.with_option-with_turns.ensures _ files) in
    let gather = c.with_arg-with_gather.ensures _ _ report c.gather.ensures.rule in
    let events = c.with_arg-with_events.ensures _ _ gather c.flag-events.ensures.rule in
    let renumber = c.with_arg-with_renumber.ensures _ _ events c.flag-renumber.ensures.rule in
    c.with_arg.ensures _ _ renumber c.flag-patient.ensures.rule
