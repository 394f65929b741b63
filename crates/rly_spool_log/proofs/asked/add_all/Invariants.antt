use Rattle.std.proofs.Common.{◌≡◌, map, take}
use Rattle.std.specs.VecDeque.{deque_capacity, deque_len}
use Rattle.rly_spool_log.specs.SpoolLog.{asked_of}
use Rattle.rly_spool_log.proofs.asked.add_all.Given as goal

-- the calls so far
abbrev pub invariant-loop-call : goal.invariant-loop-call
invariant-loop-call l =
    (l.asked.items ≡ map (λ call. asked_of call.ask) (take l.call-index l.calls))
    × (deque_len l.asked ≡ l.call-index) × (deque_capacity l.asked ≡ deque_capacity l.fn.asked)
