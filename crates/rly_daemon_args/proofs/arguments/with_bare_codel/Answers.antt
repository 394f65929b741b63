use Rattle.rly_daemon_args.proofs.arguments.with_bare_codel.Goals as goal

pub returns : goal.returns
returns c = λ app built.
    let maxpacket = c.with_arg-with_maxpacket.ensures _ _ built c.number-maxpacket.ensures.rule in
    let target = c.with_arg-with_target.ensures _ _ maxpacket c.number-target.ensures.rule in
    c.with_arg.ensures _ _ target c.number-interval.ensures.rule
