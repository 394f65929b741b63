use Rattle.std.proofs.lemmas.Result.{err_from_is_err_and}
use Rattle.rly_record.specs.HelpersReader.{rest_after, command_at, command_bytes, many_at}
use Rattle.rly_record.proofs.Bodies.{passes_none, passes_on, passed}
use Rattle.rly_record.proofs.reader.behind_commands.Goals as goal

pub returns-in_err-after-clause-gives : goal.returns-in_err-after-clause-gives
returns-in_err-after-clause-gives c =
    let p = err_from_is_err_and c.from_residual.result c.from_residual.ensures.1 in
    rw (p.1, p.2) (passes_none c.in_err-after.field-0.0 c.args.count c.loop.counter c.loop.rest.now (rest_after (many_at command_at c.args.count c.args.bytes.now)) c.loop-test.true c.in_err-after.ensures.gives c.loop.invariant.so_far)

pub loop-preserved : goal.loop-preserved
loop-preserved c = record {
  so_far = passes_on c.args.count c.loop.counter c.loop.rest.now (command_bytes c.in_ok-after.field-0-0) c.in_ok-after.after.now (rest_after (many_at command_at c.args.count c.args.bytes.now)) c.loop-test.true c.in_ok-after.ensures.gives c.loop.invariant.so_far;
}

pub returns-clause-gives : goal.returns-clause-gives
returns-clause-gives c = passed c.args.count c.loop.counter c.loop.rest.now (rest_after (many_at command_at c.args.count c.args.bytes.now)) c.loop-test.false c.loop.invariant.so_far
