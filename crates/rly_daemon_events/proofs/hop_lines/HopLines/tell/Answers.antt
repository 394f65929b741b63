use Rattle.std.proofs.Common.{◌<◌, length, ap, arith}
use Rattle.rly_daemon_events.proofs.Written.{one_more}
use Rattle.rly_daemon_events.proofs.hop_lines.HopLines.tell.Goals as goal

pub loop-place-preserved : goal.loop-place-preserved
loop-place-preserved g c =
    let within : c.loop-place.place < length c.loop-place.self = omega (arith, c.loop-place.invariant.count, ap length c.self.view_is) in
    one_more c.args.plan.now c.args.now c.args.resting.now c.args.self.now c.loop-place.self c.tell_at.new.self
    (g.W.Write.contents c.args.writer.now) (g.W.Write.contents c.loop-place.writer) (g.W.Write.contents c.tell_at.new.writer) c.loop-place.place
    within c.loop-place.invariant c.in_ok-tell_at.ensures.written c.in_ok-tell_at.ensures.told
