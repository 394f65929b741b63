use Rattle.std.proofs.Common.{arith, length-drop}
use Rattle.std.proofs.lemmas.List.{take_rest}
use Rattle.rly_daemon_reply.proofs.Flows.{appends_more}
use Rattle.rly_daemon_reply.proofs.streams.write_whole.Goals as goal

pub loop-written-preserved : goal.loop-written-preserved
loop-written-preserved g c =
    let bound = rw (take_rest c.args.text.now c.loop-written.written) at c.in_ok-count.ensures.bound in
    let bytes = rw (take_rest c.args.text.now c.loop-written.written) at c.in_ok-count.ensures.bytes in (
      omega (arith, bound, length-drop c.loop-written.written c.args.text.now, c.loop-written.invariant.0),
      appends_more (g.W.Write.contents c.args.writer.now) (g.W.Write.contents c.loop-written.writer) (g.W.Write.contents c.write_some.new.writer)
          c.args.text.now c.loop-written.written c.in_ok-count.count c.loop-written.invariant.1 bytes,
    )
