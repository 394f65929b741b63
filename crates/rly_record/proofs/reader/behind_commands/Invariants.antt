use Rattle.std.proofs.Common.{◌≡◌, ◌-◌}
use Rattle.rly_record.specs.HelpersReader.{rest_after, command_at, many_at}
use Rattle.rly_record.proofs.reader.behind_commands.Given as goal

abbrev pub invariant-loop : goal.invariant-loop
invariant-loop l = record {
  so_far : rest_after (many_at command_at (l.count - l.counter) l.rest) ≡ rest_after (many_at command_at l.count l.bytes);
}
