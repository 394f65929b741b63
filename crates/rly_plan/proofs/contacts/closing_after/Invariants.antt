use Rattle.std.proofs.Common.{◌≡◌, drop}
use Rattle.rly_plan.specs.Changes.{closing_after}
use Rattle.rly_plan.specs.HelpersContacts.{contacts_in}
use Rattle.rly_plan.proofs.contacts.closing_after.Given as goal

-- the result is that of the contacts from here on
abbrev pub invariant-loop-entry : goal.invariant-loop-entry
invariant-loop-entry l = closing_after l.close (contacts_in (drop l.entry-index l.entries)) ≡ closing_after l.end (contacts_in l.entries)
