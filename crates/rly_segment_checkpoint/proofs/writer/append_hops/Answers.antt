use Rattle.std.proofs.Common.{arith, map}
use Rattle.rly_machine.specs.Kept.{hop_state}
use Rattle.rly_machine.specs.State.{new_hop}
use Rattle.rly_machine.proofs.Keeping.{read_hop}
use Rattle.rly_segment_checkpoint.specs.Checkpoint.{hop_spelled, spelled_by}
use Rattle.rly_segment_checkpoint.specs.declared.head_form.HeadForm.TheVariants.{Second}
use Rattle.rly_segment_checkpoint.specs.HelpersFitting.{HopFits}
use Rattle.rly_segment_checkpoint.proofs.Totals.{hop_among, map_place}
use Rattle.rly_record.proofs.Written.{length_next, written_next}
use Rattle.rly_segment_checkpoint.proofs.writer.append_hops.Goals as goal

pub append_hop-requires-clause-fits : goal.append_hop-requires-clause-fits
append_hop-requires-clause-fits g c = hop_among (HopFits Second g.C.Content.length_of (g.C.Form.has_form Second)) c.args.hops.now c.loop-hop.hop-index c.hop-item.result c.loop-hop-test.true c.hop-item.is c.requires.fit

pub append_hop-requires-clause-room : goal.append_hop-requires-clause-room
append_hop-requires-clause-room g c =
    let place = map_place c.args.hops.now c.loop-hop.hop-index c.loop-hop-test.true in
    let is = read_hop c.args.hops.now c.loop-hop.hop-index c.hop-item.result c.loop-hop-test.true c.hop-item.is in
    omega (arith, length_next (hop_spelled g.C.Content.length_of (spelled_by g.C.Form.form Second)) (map hop_state c.args.hops.now) c.loop-hop.hop-index (hop_state c.hop-item.result) new_hop place is, c.loop-hop.invariant.room)

pub loop-hop-preserved : goal.loop-hop-preserved
loop-hop-preserved g c =
    let place = map_place c.args.hops.now c.loop-hop.hop-index c.loop-hop-test.true in
    let is = read_hop c.args.hops.now c.loop-hop.hop-index c.hop-item.result c.loop-hop-test.true c.hop-item.is in
    record {
      items = written_next (hop_spelled g.C.Content.length_of (spelled_by g.C.Form.form Second)) (map hop_state c.args.hops.now) c.loop-hop.hop-index (hop_state c.hop-item.result) new_hop c.args.out.now.items c.loop-hop.out.items c.append_hop.new.out.items
          place is c.loop-hop.invariant.items c.append_hop.ensures.items;
      room = omega (arith, length_next (hop_spelled g.C.Content.length_of (spelled_by g.C.Form.form Second)) (map hop_state c.args.hops.now) c.loop-hop.hop-index (hop_state c.hop-item.result) new_hop place is, c.loop-hop.invariant.room, c.append_hop.ensures.len, c.append_hop.ensures.capacity);
      capacity = omega (arith, c.loop-hop.invariant.capacity, c.append_hop.ensures.capacity);
    }
