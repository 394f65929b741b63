-- A disagreement at its place.
use Rattle.std.specs.Prelude.{ℕ, Bool, List, [], ◌∷◌, if◌then◌else◌}
use Rattle.rly_plan_syntax.specs.declared.key_path.KeyPath.TheVariants.{In}
use Rattle.rly_plan_syntax.specs.declared.key_path.PlanKey.{PlanKey}
use Rattle.rly_plan_syntax.specs.declared.key_path.Row.{Row}
use Rattle.rly_plan_syntax.specs.declared.key_path.Spot.TheVariants.{At}
use Rattle.rly_network.specs.declared.disagreement.Conflict.{Conflict}
use Rattle.rly_network.specs.declared.disagreement.Disagreement.{Disagreement}

-- at a key of a table of a station's plan
abbrev pub found_at : (station : ℕ) → Row → ℕ → PlanKey → Conflict → Disagreement
found_at station row number key conflict =
    record { station = station; place = In row number (At key); conflict = conflict }

abbrev pub found_if : Bool → Disagreement → List Disagreement
found_if is found = if is then found ∷ [] else []
