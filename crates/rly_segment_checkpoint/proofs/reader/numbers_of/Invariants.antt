use Rattle.std.proofs.Common.{◌≡◌, ◌+◌, ◌-◌, ◌≤◌, vec_len}
use Rattle.std.specs.Vec.{vec_capacity}
use Rattle.rly_record.specs.HelpersReader.{many_at, field_at}
use Rattle.rly_record.proofs.Loops.{with_front}
use Rattle.rly_segment_checkpoint.proofs.reader.numbers_of.Given as goal

abbrev pub invariant-loop : goal.invariant-loop
invariant-loop l = record {
  so_far : with_front l.numbers.items (many_at (field_at 8) (l.count - l.counter) l.rest) ≡ many_at (field_at 8) l.count l.bytes;
  room : vec_len l.numbers + (l.count - l.counter) ≤ vec_capacity l.numbers;
}
