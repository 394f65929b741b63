use Rattle.rly_daemon_args.specs.CommandLine.{rly_app}
use Rattle.rly_daemon_args.proofs.Apps.{audit_plain, format_plain, get_plain, key_plain, network_plain, plan_plain, play_plain, put_plain, serve_plain, sim_plain}
use Rattle.rly_daemon_args.proofs.commands.program.Goals as goal

pub returns : goal.returns
unfolding rly_app
returns c =
    let sim = c.with_command-with_sim.ensures _ _ c.top.ensures c.sim.ensures sim_plain in
    let format = c.with_command-with_format.ensures _ _ sim c.format.ensures format_plain in
    let play = c.with_command-with_play.ensures _ _ format c.play.ensures play_plain in
    let audit = c.with_command-with_audit.ensures _ _ play c.audit.ensures audit_plain in
    let serve = c.with_command-with_serve.ensures _ _ audit c.serve.ensures serve_plain in
    let key = c.with_command-with_key.ensures _ _ serve c.key.ensures key_plain in
    let plan = c.with_command-with_plan.ensures _ _ key c.plan.ensures plan_plain in
    let put = c.with_command-with_put.ensures _ _ plan c.put.ensures put_plain in
    let get = c.with_command-with_get.ensures _ _ put c.get.ensures get_plain in
    c.with_command.ensures _ _ get c.network.ensures network_plain
