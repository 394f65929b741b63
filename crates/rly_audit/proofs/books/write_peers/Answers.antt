use Rattle.std.proofs.Common.{arith, string_bytes}
use Rattle.rly_audit.specs.Report.{peer_line}
use Rattle.rly_audit.proofs.Lines.{lines_written}
use Rattle.rly_audit.proofs.books.write_peers.Goals as goal

pub loop-last-preserved : goal.loop-last-preserved
loop-last-preserved c = (
  omega arith,
  lines_written peer_line (string_bytes c.args.text.now) (string_bytes c.loop-last.text) (string_bytes c.write_peer.new.text) c.args.lasts.now
      c.loop-last.last-index c.loop-last.number 0 c.loop-last-test.true c.loop-last.invariant.0 c.loop-last.invariant.1 c.in_ok-write_peer.ensures,
)
