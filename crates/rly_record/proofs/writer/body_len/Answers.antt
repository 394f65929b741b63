use Rattle.std.proofs.Common.{arith}
use Rattle.rly_record.proofs.Bodies.{lengths_end, lengths_next, record_length-short, short_at}
use Rattle.rly_record.proofs.writer.body_len.Goals as goal

pub record_len-total-requires : goal.record_len-total-requires
record_len-total-requires c =
    let short = short_at c.args.commands.now c.loop-command.command-index c.command-item.result c.requires.recordable c.loop-command-test.true c.command-item.is in
    omega (arith, record_length-short 8192 c.command-item.result short)

pub overflow_add-total : goal.overflow_add-total
overflow_add-total c =
    let short = short_at c.args.commands.now c.loop-command.command-index c.command-item.result c.requires.recordable c.loop-command-test.true c.command-item.is in
    omega (arith, record_length-short 8192 c.command-item.result short, c.record_len-total.ensures, c.loop-command.invariant.bound, c.requires.count, c.loop-command-test.true)

pub loop-command-preserved : goal.loop-command-preserved
loop-command-preserved c =
    let short = short_at c.args.commands.now c.loop-command.command-index c.command-item.result c.requires.recordable c.loop-command-test.true c.command-item.is in
    record {
      so_far = omega (arith, lengths_next c.args.commands.now c.loop-command.command-index c.command-item.result c.loop-command-test.true c.command-item.is, c.record_len-total.ensures, c.loop-command.invariant.so_far);
      bound = omega (arith, record_length-short 8192 c.command-item.result short, c.record_len-total.ensures, c.loop-command.invariant.bound);
    }

pub returns : goal.returns
returns c = omega (arith, lengths_end c.args.commands.now c.loop-command.command-index c.loop-command-test.false, c.loop-command.invariant.so_far)
