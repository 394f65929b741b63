use Rattle.rly_daemon_args.proofs.arguments.with_params.Goals as goal

pub returns : goal.returns
returns c = λ app built.
    c.with_arg.ensures _ _ (c.with_codel-with_codel.ensures _ (c.with_sizes-with_sizes.ensures _ built)) c.payload.ensures.rule
