use Rattle.std.proofs.Common.{◌≡◌, drop}
use Rattle.rly_spool_log.specs.SpoolLog.{after_each}
use Rattle.rly_spool_log.proofs.spool_log.SpoolLog.discard_all.Given as goal

-- the ids that are left lead to the same
abbrev pub invariant-loop-id : goal.invariant-loop-id
invariant-loop-id l =
    after_each l.self l.hop l.cause l.clock (drop l.id-index l.ids) l.now
    ≡ after_each l.fn.self l.hop l.cause l.clock l.ids l.now
