use Rattle.std.proofs.Common.{◌≡◌, ◌+◌, drop}
use Rattle.rly_plan.specs.Passes.{contact_in_range}
use Rattle.rly_plan.specs.KeyPaths.{first_contact}
use Rattle.rly_plan.proofs.number_paths.first_contact.Given as goal

abbrev pub invariant-loop-index : goal.invariant-loop-index
invariant-loop-index l = first_contact contact_in_range (l.index + 1) (drop l.index l.contacts) ≡ first_contact contact_in_range 1 l.contacts
