use Rattle.std.proofs.Common.{◌≡◌, drop}
use Rattle.rly_plan.specs.Changes.{change_after}
use Rattle.rly_plan.specs.HelpersContacts.{contacts_in}
use Rattle.rly_plan.proofs.contacts.change_after.Given as goal

-- the result is that of the contacts from here on
abbrev pub invariant-loop-index : goal.invariant-loop-index
invariant-loop-index l = change_after (contacts_in (drop l.index l.entries)) l.moment ≡ change_after (contacts_in l.entries) l.moment
