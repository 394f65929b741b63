use Rattle.rly_plan.proofs.LinkLemmas.{link_found}
use Rattle.rly_plan.proofs.contacts.Contacts.link.Goals as goal

pub returns-in-Some : goal.returns-in-Some
returns-in-Some c =
    rw c.min.ensures (link_found _ _ _ c.args.moment _ c.self.invariant.summed c.self.view_is c.deref.ensures.value c.in-Some.ensures.last)

pub returns-in-None : goal.returns-in-None
returns-in-None c = link_found _ _ _ c.args.moment _ c.self.invariant.summed c.self.view_is c.deref.ensures.value c.in-None.ensures.last
