use Rattle.rly_plan.proofs.LinkLemmas.{open_found}
use Rattle.rly_plan.proofs.contacts.Contacts.is_open.Goals as goal

pub returns-in-Some : goal.returns-in-Some
returns-in-Some c = open_found _ _ _ _ _ c.self.invariant.summed c.self.view_is c.deref.ensures.value c.in-Some.ensures.last

pub returns-in-None : goal.returns-in-None
returns-in-None c = open_found _ _ _ _ _ c.self.invariant.summed c.self.view_is c.deref.ensures.value c.in-None.ensures.last
