use Rattle.std.proofs.Common.{◌≡◌, ◌∷◌, length, map, take}
use Rattle.rly_machine.specs.State.{live_line}
use Rattle.rly_spool_log.specs.SpoolLog.{new_hop}
use Rattle.rly_spool_log.proofs.spool_watch.hops_of.Given as goal

-- as many hops
abbrev pub invariant-loop-index : goal.invariant-loop-index
invariant-loop-index g l = l.hops.items ≡ new_hop 0 ∷ map (λ h. new_hop (length (live_line h))) (take l.index l.journal.state.hops)
