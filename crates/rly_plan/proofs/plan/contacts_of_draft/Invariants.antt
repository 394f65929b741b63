use Rattle.std.proofs.Common.{◌≡◌, map, take}
use Rattle.rly_plan.specs.Passes.{contact_from}
use Rattle.rly_plan.proofs.plan.contacts_of_draft.Given as goal

abbrev pub invariant-loop-draft : goal.invariant-loop-draft
invariant-loop-draft l = l.contacts ≡ map contact_from (take l.draft-index l.drafts)
