use Rattle.std.proofs.Common.{◌≡◌, ◌+◌, length}
use Rattle.rly_hop.specs.Payloads.{out_action_bytes}
use Rattle.rly_threads_workers.specs.HelpersTurns.{IsSameTurn, answers_in, asks_in, coming_in}
use Rattle.rly_threads_workers.proofs.Senders.{Telling}
use Rattle.rly_threads_workers.proofs.sender.SenderWorker.tell_all.Given as goal

-- the core got the answers so far
abbrev pub invariant-loop-place : goal.invariant-loop-place
invariant-loop-place g l = record {
  left : length (coming_in l.calls) + l.place ≡ length (answers_in l.fn.calls);
  turn : IsSameTurn l.fn.calls l.calls;
  asks : asks_in l.calls ≡ asks_in l.fn.calls;
  same : l.self ≡ record l.fn.self { pacing = l.self.pacing };
  telling : Telling l.fn.calls.again.items (out_action_bytes l.fn.calls.named) l.is_open l.at l.fn.ends l.ends l.fn.self.pacing l.self.pacing
      (answers_in l.fn.calls) (coming_in l.calls) l.place;
}
