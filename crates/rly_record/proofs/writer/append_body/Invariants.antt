use Rattle.std.proofs.Common.{◌≡◌, ℕ, ◌+◌, ◌<◌, ◌≤◌, ◌++◌, List, length, take, get_or, vec_len}
use Rattle.std.specs.List.{flat_map}
use Rattle.std.specs.Vec.{vec_capacity}
use Rattle.byteorder.specs.Endian.{big_bytes}
use Rattle.rly_machine.specs.declared.command.Command.{Command}
use Rattle.rly_record.specs.Spelling.{HasRecord, record_of}
use Rattle.rly_record.proofs.Bodies.{lengths_from}
use Rattle.rly_record.proofs.writer.append_body.Given as goal

abbrev pub invariant-loop-command : goal.invariant-loop-command
invariant-loop-command l = record {
  items : l.out.items ≡ (l.fn.out.items ++ big_bytes 2 (length l.commands)) ++ flat_map record_of (take l.command-index l.commands);
  room : vec_len l.out + lengths_from l.command-index l.commands ≤ vec_capacity l.out;
  capacity : vec_capacity l.fn.out ≤ vec_capacity l.out;
  records : (k : ℕ) (d : Command (List ℕ)) → k < l.command-index → HasRecord (get_or l.commands k d);
}
