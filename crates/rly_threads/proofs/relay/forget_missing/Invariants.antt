use Rattle.std.proofs.Common.{◌≡◌}
use Rattle.rly_threads.proofs.relay.forget_missing.Given as goal

-- the flusher's model is unchanged
abbrev pub invariant-loop-thread : goal.invariant-loop-thread
invariant-loop-thread g l = l.flusher ≡ l.fn.flusher
