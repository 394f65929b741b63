-- Warnings of a wall clock that is set (docs/COMMANDS.md, "rly serve").
use Rattle.std.specs.Prelude.{◌≡◌, ℕ, ◌+◌, ◌-◌, nat_lt, max, if◌then◌else◌, List, [], ◌∷◌, ◌++◌, Option, Some, None}
use Rattle.rly_link_udp.specs.declared.clock_watch.ClockWatch.{ClockWatch}
use Rattle.rly_link_udp.specs.declared.clock_watch.Reading.{Reading}
use Rattle.rly_station.specs.Warnings.{logged_warnings}
use Rattle.rly_station.specs.declared.warning.ClockStep.{ClockStep}
use Rattle.rly_station.specs.declared.warning.ClockStep.TheVariants.{Forward, Back}
use Rattle.rly_station.specs.declared.warning.Warning.{Warning}
use Rattle.rly_station.specs.declared.warning.Warning.TheVariants.{ClockSet}

-- the gain of the wall clock on the monotonic one between two readings, and its loss, in microseconds
abbrev pub clock_gain : Reading → Reading → ℕ
clock_gain before after = (after.wall + before.steady) - (before.wall + after.steady)

abbrev pub clock_loss : Reading → Reading → ℕ
clock_loss before after = (before.wall + after.steady) - (after.wall + before.steady)

-- the step of the wall clock between them, if it is more than a second
abbrev pub step_between : Reading → Reading → Option ClockStep
step_between before after =
    if nat_lt 1000000 (clock_gain before after) then Some (Forward (clock_gain before after))
    else if nat_lt 1000000 (clock_loss before after) then Some (Back (clock_loss before after)) else None

-- the warning logged for a reading after another
abbrev pub step_warnings : Option ClockStep → List Warning
step_warnings None = []
step_warnings (Some step) = ClockSet step ∷ []

abbrev pub reading_warnings : Option Reading → Reading → List Warning
reading_warnings None after = []
reading_warnings (Some before) after = step_warnings (step_between before after)

-- the clocks were read once more, and a step since the last reading was logged
pub record HasRead (old new : ClockWatch) (reading : Reading) : Type 0 where
  pub kept : new.before ≡ Some reading
  pub told : logged_warnings new.teller ≡ logged_warnings old.teller ++ reading_warnings old.before reading

-- the same of a clock that is watched, if it is: the wall clock showed this moment, and the monotonic one the
-- maximum of its readings
abbrev pub HasReadIf : Option ClockWatch → Option ClockWatch → ℕ → ℕ → ℕ → Type 0
HasReadIf None new now before since = new ≡ None
HasReadIf (Some old) None now before since = ⊥
HasReadIf (Some old) (Some new) now before since =
    (steady : ℕ) × (since ≡ max before steady) × HasRead old new (record { wall = now; steady = steady })
