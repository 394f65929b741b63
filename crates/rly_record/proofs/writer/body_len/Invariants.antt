use Rattle.std.proofs.Common.{◌≡◌, ◌+◌, ◌*◌, ◌≤◌, length}
use Rattle.rly_record.specs.Spelling.{body_length, longest_record}
use Rattle.rly_record.proofs.Bodies.{lengths_from}
use Rattle.rly_record.proofs.writer.body_len.Given as goal

abbrev pub invariant-loop-command : goal.invariant-loop-command
invariant-loop-command l = record {
  so_far : l.total + lengths_from l.command-index l.commands ≡ body_length length l.commands;
  bound : l.total ≤ 2 + longest_record 8192 * l.command-index;
}
