use Rattle.std.proofs.Common.{arith}
use Rattle.std.proofs.lemmas.Result.{err_from_is_err_and}
use Rattle.rly_record.specs.HelpersReader.{many_at}
use Rattle.rly_segment_checkpoint.specs.HelpersReader.{entry_at}
use Rattle.rly_record.proofs.Loops.{goes_on, ends, is_done}
use Rattle.rly_segment_checkpoint.proofs.reader.entries_of.Goals as goal

pub returns-in_err-entry : goal.returns-in_err-entry
returns-in_err-entry g c =
    let p = err_from_is_err_and c.from_residual-in_err-entry.result c.from_residual-in_err-entry.ensures.1 in
    rw (p.1, p.2) (ends (entry_at c.args.form (g.C.Form.form_at c.args.form)) c.in_err-entry.field-0.0 c.loop.entries.items c.args.count c.loop.counter c.loop.rest.now (many_at (entry_at c.args.form (g.C.Form.form_at c.args.form)) c.args.count c.args.bytes.now) c.loop-test.true c.in_err-entry.ensures c.loop.invariant.so_far)

pub loop-preserved : goal.loop-preserved
loop-preserved g c = record {
  so_far = rw c.push_reserved.ensures.items (goes_on (entry_at c.args.form (g.C.Form.form_at c.args.form)) c.loop.entries.items c.args.count c.loop.counter c.loop.rest.now c.in_ok-entry.entry c.in_ok-entry.after.now (many_at (entry_at c.args.form (g.C.Form.form_at c.args.form)) c.args.count c.args.bytes.now) c.loop-test.true c.in_ok-entry.ensures c.loop.invariant.so_far);
  room = omega (arith, c.push_reserved.ensures.len, c.push_reserved.ensures.capacity, c.loop.invariant.room, c.loop-test.true);
}

pub returns : goal.returns
returns g c = is_done (entry_at c.args.form (g.C.Form.form_at c.args.form)) c.loop.entries.items c.args.count c.loop.counter c.loop.rest.now (many_at (entry_at c.args.form (g.C.Form.form_at c.args.form)) c.args.count c.args.bytes.now) c.loop-test.false c.loop.invariant.so_far
