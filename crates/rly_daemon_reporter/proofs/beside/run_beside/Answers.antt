use Rattle.std.proofs.Common.{rules}
use Rattle.rly_daemon_reporter.proofs.beside.run_beside.Goals as goal

-- the requirements of the closure, and after it that its captures may be sent and the runtime shared
pub scoped-requires : goal.scoped-requires
scoped-requires g c = record { at = λ scope. (c.requires.run, (c.requires.work, (search rules, search rules, search rules, search rules, search rules, search rules))) }
