use Rattle.std.proofs.Common.{ap, arith}
use Rattle.std.proofs.lemmas.Result.{err_from_is_err_and}
use Rattle.rly_record.specs.HelpersReader.{command_at, command_bytes, in_front, many_at}
use Rattle.rly_record.proofs.Bodies.{front_fails}
use Rattle.rly_record.proofs.Loops.{goes_on, ends, is_done}
use Rattle.rly_record.proofs.Records.{kept_found}
use Rattle.rly_record.proofs.reader.commands_of.Goals as goal

pub returns-in_err-command : goal.returns-in_err-command
returns-in_err-command c =
    let p = err_from_is_err_and c.from_residual-in_err-command.result c.from_residual-in_err-command.ensures.1 in
    rw (p.1, p.2) (front_fails c.in_err-command.field-0.0 (many_at command_at c.args.count c.args.bytes.now)
    (ends command_at c.in_err-command.field-0.0 c.loop.commands.items c.args.count c.loop.counter c.loop.rest.now (many_at command_at c.args.count c.args.bytes.now) c.loop-test.true c.in_err-command.ensures.gives c.loop.invariant.so_far))

pub loop-preserved : goal.loop-preserved
loop-preserved c =
    let found = kept_found c.loop.rest.now (command_bytes c.in_ok-command.command) c.in_ok-command-2.command c.in_ok-command.after.now c.in_ok-command.ensures.gives c.in_ok-command-2.ensures.kept in
    record {
      so_far = rw c.push_reserved.ensures.items (goes_on command_at c.loop.commands.items c.args.count c.loop.counter c.loop.rest.now c.in_ok-command-2.command c.in_ok-command.after.now (many_at command_at c.args.count c.args.bytes.now) c.loop-test.true found c.loop.invariant.so_far);
      room = omega (arith, c.push_reserved.ensures.len, c.push_reserved.ensures.capacity, c.loop.invariant.room, c.loop-test.true);
    }

pub returns : goal.returns
returns c = ap in_front (is_done command_at c.loop.commands.items c.args.count c.loop.counter c.loop.rest.now (many_at command_at c.args.count c.args.bytes.now) c.loop-test.false c.loop.invariant.so_far)
