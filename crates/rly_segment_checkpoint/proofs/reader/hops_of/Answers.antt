use Rattle.std.proofs.Common.{arith, map}
use Rattle.std.proofs.lemmas.List.{map-append}
use Rattle.std.proofs.lemmas.Result.{err_from_is_err_and}
use Rattle.rly_machine.specs.Kept.{hop_state}
use Rattle.rly_record.specs.HelpersReader.{many_at}
use Rattle.rly_segment_checkpoint.specs.HelpersReader.{hop_bytes_at}
use Rattle.rly_record.proofs.Loops.{goes_on, ends, is_done}
use Rattle.rly_segment_checkpoint.proofs.reader.hops_of.Goals as goal

pub returns-in_err-hop : goal.returns-in_err-hop
returns-in_err-hop g c =
    let p = err_from_is_err_and c.from_residual-in_err-hop.result c.from_residual-in_err-hop.ensures.1 in
    rw (p.1, p.2) (ends (hop_bytes_at c.args.form (g.C.Form.form_at c.args.form)) c.in_err-hop.field-0.0 (map hop_state c.loop.hops.items) c.args.count c.loop.counter c.loop.rest.now (many_at (hop_bytes_at c.args.form (g.C.Form.form_at c.args.form)) c.args.count c.args.bytes.now) c.loop-test.true c.in_err-hop.ensures c.loop.invariant.so_far)

pub loop-preserved : goal.loop-preserved
loop-preserved g c = record {
  so_far = rw (c.push_reserved.ensures.items, map-append) (goes_on (hop_bytes_at c.args.form (g.C.Form.form_at c.args.form)) (map hop_state c.loop.hops.items) c.args.count c.loop.counter c.loop.rest.now (hop_state c.in_ok-hop.hop) c.in_ok-hop.after.now (many_at (hop_bytes_at c.args.form (g.C.Form.form_at c.args.form)) c.args.count c.args.bytes.now) c.loop-test.true c.in_ok-hop.ensures c.loop.invariant.so_far);
  room = omega (arith, c.push_reserved.ensures.len, c.push_reserved.ensures.capacity, c.loop.invariant.room, c.loop-test.true);
}

pub returns : goal.returns
returns g c = is_done (hop_bytes_at c.args.form (g.C.Form.form_at c.args.form)) (map hop_state c.loop.hops.items) c.args.count c.loop.counter c.loop.rest.now (many_at (hop_bytes_at c.args.form (g.C.Form.form_at c.args.form)) c.args.count c.args.bytes.now) c.loop-test.false c.loop.invariant.so_far
