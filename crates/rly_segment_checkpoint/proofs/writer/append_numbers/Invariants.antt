use Rattle.std.proofs.Common.{◌≡◌, ◌+◌, ◌≤◌, ◌++◌, length, take, drop, vec_len}
use Rattle.std.specs.List.{flat_map}
use Rattle.std.specs.Vec.{vec_capacity}
use Rattle.byteorder.specs.Endian.{big_bytes}
use Rattle.rly_segment_checkpoint.proofs.writer.append_numbers.Given as goal

abbrev pub invariant-loop-number : goal.invariant-loop-number
invariant-loop-number l = record {
  items : l.out.items ≡ l.fn.out.items ++ flat_map (big_bytes 8) (take l.number-index l.numbers);
  room : vec_len l.out + length (flat_map (big_bytes 8) (drop l.number-index l.numbers)) ≤ vec_capacity l.out;
  len : vec_len l.out + length (flat_map (big_bytes 8) (drop l.number-index l.numbers)) ≡ vec_len l.fn.out + length (flat_map (big_bytes 8) l.numbers);
  capacity : vec_capacity l.fn.out ≤ vec_capacity l.out;
}
