use Rattle.std.proofs.Common.{◌≡◌, drop}
use Rattle.rly_spool_log.specs.SpoolLog.{after_answers}
use Rattle.rly_spool_log.proofs.spool_log.SpoolLog.end.Given as goal

-- the answers that are left lead to the same
abbrev pub invariant-loop-answer : goal.invariant-loop-answer
invariant-loop-answer l =
    after_answers l.self (drop l.answer-index l.answers) l.now ≡ after_answers l.fn.self l.answers l.now
