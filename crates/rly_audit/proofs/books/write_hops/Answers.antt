use Rattle.std.proofs.Common.{arith, string_bytes}
use Rattle.rly_audit.specs.Report.{hop_line}
use Rattle.rly_audit.proofs.Lines.{lines_written}
use Rattle.rly_audit.proofs.books.write_hops.Goals as goal

pub loop-status-preserved : goal.loop-status-preserved
loop-status-preserved c = (
  omega arith,
  lines_written hop_line (string_bytes c.args.text.now) (string_bytes c.loop-status.text) (string_bytes c.write_hop.new.text) c.args.hops.now
      c.loop-status.status-index c.loop-status.number _ c.loop-status-test.true c.loop-status.invariant.0 c.loop-status.invariant.1 c.in_ok-write_hop.ensures,
)
