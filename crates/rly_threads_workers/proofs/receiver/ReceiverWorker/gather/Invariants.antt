use Rattle.std.proofs.Common.{◌≤◌, length}
use Rattle.rly_hop.specs.Receiving.{receiver}
use Rattle.rly_threads_workers.specs.HelpersTurns.{AreWaiting}
use Rattle.rly_threads_workers.specs.ReceiverTurns.{receiver_worker}
use Rattle.rly_threads_workers.proofs.Receivers.{Gathering}
use Rattle.rly_threads_workers.proofs.receiver.ReceiverWorker.gather.Given as goal

-- each receive so far returned a packet, and led to one Take at most
abbrev pub invariant-loop-place : goal.invariant-loop-place
invariant-loop-place g l = record {
  waiting : AreWaiting l.takes;
  fewer : length l.takes.asks.items ≤ l.place;
  gathered : Gathering (receiver_worker l.self.plan.now l.self.peer) (receiver l.self.own l.self.station) l.fn.ends l.ends l.fn.takes l.takes l.place;
}
