use Rattle.std.proofs.Common.{◌≡◌}
use Rattle.rly_threads_workers.proofs.Senders.{Hearing}
use Rattle.rly_threads_workers.proofs.sender.SenderWorker.gather.Given as goal

-- each receive so far returned a packet
abbrev pub invariant-loop-place : goal.invariant-loop-place
invariant-loop-place g l = record {
  same : l.self ≡ record l.fn.self { pacing = l.self.pacing };
  heard : Hearing l.fn.sleep l.fn.ends l.ends l.fn.self.pacing l.self.pacing l.place;
}
