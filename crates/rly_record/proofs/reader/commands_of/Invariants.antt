use Rattle.std.proofs.Common.{◌≡◌, ◌+◌, ◌-◌, ◌≤◌, vec_len}
use Rattle.std.specs.Vec.{vec_capacity}
use Rattle.rly_record.specs.HelpersReader.{command_at, many_at}
use Rattle.rly_record.proofs.Loops.{with_front}
use Rattle.rly_record.proofs.reader.commands_of.Given as goal

abbrev pub invariant-loop : goal.invariant-loop
invariant-loop l = record {
  so_far : with_front l.commands.items (many_at command_at (l.count - l.counter) l.rest) ≡ many_at command_at l.count l.bytes;
  room : vec_len l.commands + (l.count - l.counter) ≤ vec_capacity l.commands;
}
