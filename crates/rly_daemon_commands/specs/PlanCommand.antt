-- The result of a successful `rly plan`.
use Rattle.std.specs.Prelude.{◌≡◌, ℕ, ◌-◌, ◌<◌, List, [], ◌++◌, min, Bool, false, true, Option, None, IfSome}
use Rattle.std.specs.Io.KnownBytes.{Appends}
use Rattle.rly_core.specs.declared.limits.TheConstants.{MOMENT_LIMIT}
use Rattle.rly_core.specs.declared.params.Geometry.{Geometry}
use Rattle.rly_plan.specs.ContactPlan.{ContactPlan}
use Rattle.rly_plan.specs.Sound.{IsSoundPlan}
use Rattle.rly_plan_changes.specs.PlanChanges.{plan_changes}
use Rattle.rly_plan_changes.specs.PlanIds.{ids_of, other_station}
use Rattle.rly_plan_changes.specs.declared.plan_ids.OtherStation.{OtherStation}
use Rattle.rly_plan_show.specs.CodelText.{codel_text}
use Rattle.rly_plan_show.specs.PlanText.{text_for_plan}
use Rattle.rly_plan_show.specs.PlanWarnings.{plan_warnings, warning_lines}
use Rattle.rly_segment.specs.Device.{IsLayout}

-- the moment printed: the one that is given, at most the last of a plan
abbrev pub planned_moment : ℕ → ℕ
planned_moment moment = min moment (MOMENT_LIMIT - 1)

-- the text of what CoDel of a device does at a plan's hops
pub record IsCodelOfDevice (plan : ContactPlan) (text : List ℕ) : Type 0 where
  pub geometry : Geometry
  pub size : ℕ
  pub layout : IsLayout geometry size
  pub says : text ≡ codel_text plan geometry.params

-- that text if a device is given, and none if none is
abbrev pub IsCodelText : Bool → ContactPlan → List ℕ → Type 0
IsCodelText false plan text = text ≡ []
IsCodelText true plan text = IsCodelOfDevice plan text

-- what was printed of a plan: its text at a moment; or, with another plan, what differs from that one, and the first id of
-- both that names another station
abbrev pub IsToldOfPlan : (was : Bool) → ContactPlan → (moment : ℕ) → List ℕ → Option OtherStation → Type 0
IsToldOfPlan false plan moment text other = (text ≡ text_for_plan plan moment) × (other ≡ None)
IsToldOfPlan true plan moment text other = (old : ContactPlan) × IsSoundPlan old × (text ≡ plan_changes old plan)
    × (other ≡ other_station (ids_of old) (ids_of plan))

-- its warnings, and what CoDel of a device does at its hops
abbrev pub AreLinesOfPlan : (device : Bool) → ContactPlan → (moment : ℕ) → List ℕ → Type 0
AreLinesOfPlan device plan moment lines = (codel : List ℕ) × IsCodelText device plan codel
    × (lines ≡ warning_lines (plan_warnings plan moment) ++ codel)

-- A sound plan was printed at the given moment, or at one of the clock, or what differs from another one; and on standard
-- error its warnings, and what CoDel of a device does at its hops. The id is the first that names another station.
pub record HasShownPlan (at : Option ℕ) (device was : Bool) (other : Option OtherStation)
    (old new told_old told_new : Option (List ℕ)) : Type 0 where
  pub plan : ContactPlan
  pub moment : ℕ
  pub sound : IsSoundPlan plan
  pub given : IfSome at (λ asked. moment ≡ planned_moment asked)
  pub within : moment < MOMENT_LIMIT
  pub text : List ℕ
  pub tells : IsToldOfPlan was plan moment text other
  pub written : Appends old new text
  pub lines : List ℕ
  pub warns : AreLinesOfPlan device plan moment lines
  pub told : Appends told_old told_new lines
