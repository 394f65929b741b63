use Rattle.std.proofs.Common.{arith, ap, map}
use Rattle.rly_machine.specs.Kept.{hop_state}
use Rattle.rly_machine.proofs.Keeping.{all_made, many_made, one_more}
use Rattle.rly_machine.proofs.hop.Hop.many.Goals as goal

pub loop-hop-init : goal.loop-hop-init
loop-hop-init g c = record { made = ap (map hop_state) c.in_ok-hops.ensures.items; room = c.in_ok-hops.ensures.exact }

pub push_reserved-requires : goal.push_reserved-requires
push_reserved-requires g c =
    omega (arith, many_made c.loop-hop.hops.items c.loop-hop._hop c.loop-hop.invariant.made, c.loop-hop.invariant.room, c.loop-hop.hops.ok.0, c.loop-hop-test.true)

pub loop-hop-preserved : goal.loop-hop-preserved
loop-hop-preserved g c = record {
  made = one_more c.loop-hop.hops.items c.push_reserved.new.self.items c.new.result c.loop-hop._hop c.push_reserved.ensures.items c.new.ensures c.loop-hop.invariant.made;
  room = omega (arith, c.push_reserved.ensures.capacity, c.loop-hop.invariant.room);
}

pub returns : goal.returns
returns g c = all_made c.loop-hop.hops.items c.loop-hop._hop c.args.count c.loop-hop.auto._hop-end c.loop-hop-test.false c.loop-hop.invariant.made
