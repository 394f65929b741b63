use Rattle.std.proofs.Common.{◌≡◌, false, [], length, vec_capacity, vec_len}
use Rattle.rly_line.specs.EndViews.{names_of, new_reply_ends}
use Rattle.rly_line.specs.Seats.{new_callers}
use Rattle.rly_line.proofs.setup.make.Given as goal

-- the seats so far, their queues, and room for the others
abbrev pub invariant-loop-number : goal.invariant-loop-number
invariant-loop-number l = record {
  line : l.line ≡ record l.line { capacity = l.capacity; seats = l.number; taken = []; over = false };
  made : l.made.items ≡ new_callers l.line.of 0 (names_of l.replies.items);
  replies : l.replies.items ≡ new_reply_ends 0 (names_of l.replies.items);
  count : vec_len l.made ≡ l.number;
  reply_count : vec_len l.replies ≡ l.number;
  lines : length l.replies.items ≡ l.number;
  room : vec_capacity l.made ≡ l.seats;
  reply_room : vec_capacity l.replies ≡ l.seats;
}
