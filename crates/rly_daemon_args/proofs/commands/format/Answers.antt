use Rattle.rly_daemon_args.specs.CommandLine.{format_app}
use Rattle.rly_daemon_args.proofs.commands.format.Goals as goal

pub returns : goal.returns
unfolding format_app
returns c =
    let sizes = c.with_sizes-with_sizes.ensures _ (c.with_path-with_file.ensures _ c.command_with_help-bare.ensures) in
    let payload = c.with_arg-with_payload.ensures _ _ (c.with_bare_codel-with_codel.ensures _ sizes) c.payload.ensures.rule in
    let segments = c.with_option-with_segments.ensures _ payload in
    let length = c.with_arg-with_length.ensures _ _ segments c.number-length.ensures.rule in
    let force = c.with_arg-with_force.ensures _ _ length c.flag-force.ensures.rule in
    let keep_all = c.with_arg-with_keep_all.ensures _ _ force c.flag-keep_all.ensures.rule in
    c.with_arg.ensures _ _ keep_all c.flag-allocate.ensures.rule
