use Rattle.std.proofs.Common.{◌≡◌, ◌∙◌, None, ap, ap₂, arith}
use Rattle.std.specs.Prelude.{min, unwrap_or}
use Rattle.rly_daemon_events.specs.HopEvents.{next_wait, wait_at}
use Rattle.rly_daemon_events.proofs.Least.{found_there, one_less}
use Rattle.rly_daemon_events.proofs.hop_lines.HopLines.wait.Goals as goal

pub loop-place-preserved : goal.loop-place-preserved
loop-place-preserved c =
    let of = wait_at c.args.plan.now c.args.now c.args.resting.now c.args.self.now in
    let last = found_there c.self.inside.lasts.items c.args.self.now c.loop-place.place c.index.result.now None c.self.view_is (omega arith) c.index.ensures in
    let next : c.next_wait.result ≡ of c.loop-place.place = c.next_wait.ensures ∙ ap₂ next_wait last c.look_at-look.ensures in
    one_less of c.loop-place.place c.loop-place.wait c.min-wait.result c.loop-place.invariant
    (c.min-wait.ensures ∙ ap (min c.loop-place.wait) (c.unwrap_or.ensures ∙ ap (λ o. unwrap_or o 1000000) next))
