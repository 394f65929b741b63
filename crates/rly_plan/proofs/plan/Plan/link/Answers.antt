use Rattle.std.proofs.Common.{sym}
use Rattle.rly_plan.proofs.LinkLemmas.{never_open}
use Rattle.rly_plan.proofs.plan.Plan.link.Goals as goal

pub returns-in-None : goal.returns-in-None
returns-in-None c = rw (← c.self.view_is, ← c.deref.ensures.value, ← c.in-None.ensures) (sym (never_open c.args.moment))
