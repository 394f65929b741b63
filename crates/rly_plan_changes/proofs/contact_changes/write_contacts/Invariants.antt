use Rattle.std.proofs.Common.{◌≡◌, ◌++◌, ◌+◌, ◌*◌, ◌-◌, length, string_bytes}
use Rattle.rly_plan_changes.specs.PlanChanges.{contact_changes, stretches}
use Rattle.rly_plan_changes.proofs.contact_changes.write_contacts.Given as goal

-- the lines so far, before those of the remaining stretches
abbrev pub invariant-loop-change : goal.invariant-loop-change
invariant-loop-change l =
    string_bytes l.text ++ stretches l.number l.old.contacts l.new.contacts ((length l.old.contacts + length l.new.contacts) * 2 - l._change) l.from
    ≡ string_bytes l.fn.text ++ contact_changes l.number l.old.contacts l.new.contacts
