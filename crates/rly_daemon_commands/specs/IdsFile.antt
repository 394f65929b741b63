-- The ids that are kept beside a device (docs/FORMATS.md, "The ids of a device").
use Rattle.std.specs.Prelude.{◌≡◌, ℕ, Bool, List, Option, Ok}
use Rattle.rly_plan.specs.ContactPlan.{ContactPlan}
use Rattle.rly_plan_changes.specs.PlanIds.{Ids, ids_to_keep}

-- the ids of a plan are kept, after those in a text: no id of the plan names another station there, unless that is allowed
pub record HasKeptIds (kept : Option (List ℕ)) (plan : ContactPlan) (renumber : Bool) : Type 0 where
  pub ids : Ids
  pub agreed : ids_to_keep kept plan renumber ≡ Ok ids
