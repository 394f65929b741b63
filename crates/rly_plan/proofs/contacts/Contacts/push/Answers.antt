use Rattle.std.proofs.Common.{arith}
use Rattle.rly_plan.proofs.LinkLemmas.{kept_push, total_below}
use Rattle.rly_plan.proofs.contacts.Contacts.push.Goals as goal

pub overflow_add-self : goal.overflow_add-self
overflow_add-self c = omega (arith, total_below _ _ _ c.self.invariant c.self.view_is)

pub invariant_of-self-2 : goal.invariant_of-self-2
invariant_of-self-2 c =
    rw c.in_ok-push.ensures.items (kept_push _ _ _ _ c.self.invariant c.self.view_is c.requires.behind c.requires.lasts c.requires.bounded)
