use Rattle.std.proofs.Common.{arith, string_bytes}
use Rattle.rly_plan_show.specs.CodelText.{hop_codel}
use Rattle.rly_plan_show.proofs.Lines.{lines_written}
use Rattle.rly_plan_show.proofs.codel.write_codel.Goals as goal

pub loop-hop-preserved : goal.loop-hop-preserved
loop-hop-preserved c = (
  omega arith,
  lines_written (hop_codel c.args.params.now) (string_bytes c.args.text.now) (string_bytes c.loop-hop.text) (string_bytes c.write_hop_codel.new.text) c.args.hops.now
      c.loop-hop.hop-index c.loop-hop.number c.hop-item.result c.loop-hop-test.true c.hop-item.is c.loop-hop.invariant.0 c.loop-hop.invariant.1 c.in_ok-write_hop_codel.ensures,
)
