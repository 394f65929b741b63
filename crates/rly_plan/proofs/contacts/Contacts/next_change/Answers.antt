use Rattle.rly_plan.proofs.ChangeLaws.{change_bounded}
use Rattle.rly_plan.proofs.contacts.Contacts.next_change.Goals as goal

pub returns-clause-bounded : goal.returns-clause-bounded
returns-clause-bounded c =
    let seen = change_bounded 0 0 _ c.args.moment c.self.invariant.summed in
    rw (c.change_after.ensures, c.deref.ensures.value) seen
