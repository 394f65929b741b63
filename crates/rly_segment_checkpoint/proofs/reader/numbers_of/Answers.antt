use Rattle.std.proofs.Common.{arith}
use Rattle.std.proofs.lemmas.Result.{err_from_is_err_and}
use Rattle.rly_record.specs.HelpersReader.{many_at, field_at}
use Rattle.rly_record.proofs.Loops.{goes_on, ends, is_done}
use Rattle.rly_segment_checkpoint.proofs.reader.numbers_of.Goals as goal

pub returns-in_err-number : goal.returns-in_err-number
returns-in_err-number c =
    let p = err_from_is_err_and c.from_residual-in_err-number.result c.from_residual-in_err-number.ensures.1 in
    rw (p.1, p.2) (ends (field_at 8) c.in_err-number.field-0.0 c.loop.numbers.items c.args.count c.loop.counter c.loop.rest.now (many_at (field_at 8) c.args.count c.args.bytes.now) c.loop-test.true c.in_err-number.ensures c.loop.invariant.so_far)

pub loop-preserved : goal.loop-preserved
loop-preserved c = record {
  so_far = rw c.push_reserved.ensures.items (goes_on (field_at 8) c.loop.numbers.items c.args.count c.loop.counter c.loop.rest.now c.in_ok-number.number c.in_ok-number.after.now (many_at (field_at 8) c.args.count c.args.bytes.now) c.loop-test.true c.in_ok-number.ensures c.loop.invariant.so_far);
  room = omega (arith, c.push_reserved.ensures.len, c.push_reserved.ensures.capacity, c.loop.invariant.room, c.loop-test.true);
}

pub returns : goal.returns
returns c = is_done (field_at 8) c.loop.numbers.items c.args.count c.loop.counter c.loop.rest.now (many_at (field_at 8) c.args.count c.args.bytes.now) c.loop-test.false c.loop.invariant.so_far
