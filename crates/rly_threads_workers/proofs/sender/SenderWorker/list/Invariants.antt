use Rattle.std.proofs.Common.{◌≡◌, []}
use Rattle.std.specs.List.{filter_map}
use Rattle.rly_hop.specs.Payloads.{out_action_bytes}
use Rattle.rly_threads_workers.specs.HelpersTurns.{IsSameTurn, answers_in, asks_in}
use Rattle.rly_threads_workers.specs.SenderTurns.{calls_from, named_ask, sender_worker}
use Rattle.rly_threads_workers.proofs.sender.SenderWorker.list.Given as goal

-- the calls so far are listed
abbrev pub invariant-loop-place : goal.invariant-loop-place
invariant-loop-place l = record {
  same : IsSameTurn l.fn.calls l.calls;
  answers : answers_in l.calls ≡ [];
  asks : asks_in l.calls
      ≡ filter_map (named_ask (sender_worker l.self.plan.now l.self.hop) l.now) (calls_from l.fn.calls.again.items (out_action_bytes l.fn.calls.named) l.place);
}
