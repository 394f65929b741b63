use Rattle.std.proofs.Common.{List, ℕ, ◌++◌, ◌∙◌, append_assoc, arith, length}
use Rattle.std.specs.List.{flat_map}
use Rattle.byteorder.specs.Endian.{big_bytes}
use Rattle.rly_record.specs.Spelling.{record_of}
use Rattle.rly_record.proofs.Bodies.{has_next, have_all, lengths_next, recordable_at}
use Rattle.rly_record.proofs.Written.{written_all, written_next}
use Rattle.rly_record.proofs.writer.append_body.Goals as goal

pub append_record-requires-clause-recordable : goal.append_record-requires-clause-recordable
append_record-requires-clause-recordable c =
    recordable_at c.args.commands.now c.loop-command.command-index c.command-item.result c.requires.recordable c.loop-command-test.true c.command-item.is

pub append_record-requires-clause-room : goal.append_record-requires-clause-room
append_record-requires-clause-room c =
    omega (arith, lengths_next c.args.commands.now c.loop-command.command-index c.command-item.result c.loop-command-test.true c.command-item.is, c.loop-command.invariant.room)

pub loop-command-preserved : goal.loop-command-preserved
loop-command-preserved c = record {
  items = written_next record_of c.args.commands.now c.loop-command.command-index c.command-item.result c.command-item.result (c.args.out.now.items ++ big_bytes 2 (length c.args.commands.now)) c.loop-command.out.items c.append_record.new.out.items
      c.loop-command-test.true c.command-item.is c.loop-command.invariant.items c.append_record.ensures.items;
  room = omega (arith, lengths_next c.args.commands.now c.loop-command.command-index c.command-item.result c.loop-command-test.true c.command-item.is, c.loop-command.invariant.room, c.append_record.ensures.len, c.append_record.ensures.capacity);
  capacity = omega (arith, c.loop-command.invariant.capacity, c.append_record.ensures.capacity);
  records = has_next c.args.commands.now c.loop-command.command-index c.command-item.result c.loop-command-test.true c.command-item.is c.append_record.ensures.command c.loop-command.invariant.records;
}

pub returns-clause-commands : goal.returns-clause-commands
returns-clause-commands c = (c.requires.count, have_all c.args.commands.now c.loop-command.command-index c.loop-command-test.false c.loop-command.invariant.records)

pub returns-clause-items : goal.returns-clause-items
returns-clause-items c =
    let count : List ℕ = big_bytes 2 (length c.args.commands.now) in
    written_all record_of c.args.commands.now c.loop-command.command-index (c.args.out.now.items ++ count) c.loop-command.out.items c.loop-command-test.false c.loop-command.invariant.items
    ∙ append_assoc c.args.out.now.items count (flat_map record_of c.args.commands.now)
