use Rattle.std.proofs.Common.{rules}
use Rattle.rly_threads.proofs.relay.run_relay_at.Goals as goal

-- the requirements of the closure, and after it that the links, the clocks and the wakers may be sent and the runtime shared
pub scoped-requires : goal.scoped-requires
scoped-requires g c = record { at = λ scope. (c.requires.each, (c.requires.seats, (c.requires.new, (search rules, search rules, search rules, search rules)))) }

pub returns : goal.returns
returns g c = record { end = c.scoped.ensures.1.0; refused = c.scoped.ensures.1.1 }
