-- A table of steps, filled entry by entry.
use Rattle.std.proofs.Common.{◌≡◌, ℕ, ◌+◌, ◌-◌, ◌<◌, ◌≤◌, ◌^◌, List, length, get_or, set, refl, arith, inl, inr, ◌∙◌}
use Rattle.std.proofs.lemmas.List.{get_or-set_same, get_or-set_other}
use Rattle.std.proofs.lemmas.Bool.{cases_eq}
use Rattle.rly_law.specs.ControlLaw.{IsStep, step_of}
use Rattle.rly_law.specs.HelpersTable.{IsTable}
use Rattle.rly_law.proofs.Steps.{IsStep-step_of, step_of-le}

-- one entry more
pub IsTable-more : (interval entries step : ℕ) (steps : List ℕ) → entries < length steps → step ≡ step_of interval (entries + 1)
    → IsTable interval entries steps → IsTable interval (entries + 1) (set steps entries step)
IsTable-more interval entries step steps there is_step table i below =
    elim (cases_eq i entries) [
      | inl same ↦ rw same (get_or-set_same steps entries step 0 there ∙ is_step)
      | inr other ↦ get_or-set_other steps entries i step 0 other ∙ table i (omega arith)
    ]

-- an entry is the step of its count
pub IsTable-entry : (interval count : ℕ) (steps : List ℕ) → 1 ≤ count → count ≤ 1024 → IsTable interval 1024 steps
    → get_or steps (count - 1) 0 ≡ step_of interval count
IsTable-entry interval count steps positive within table =
    let same : count - 1 + 1 ≡ count = omega arith in
    table (count - 1) (omega arith) ∙ (rw same refl)

-- so it is the greatest such number
pub IsTable-greatest : (interval count : ℕ) (steps : List ℕ) → interval < 2 ^ 32 → 1 ≤ count → count ≤ 1024
    → IsTable interval 1024 steps → IsStep interval count (get_or steps (count - 1) 0)
IsTable-greatest interval count steps short positive within table =
    rw (IsTable-entry interval count steps positive within table) (IsStep-step_of interval count short positive)

-- and it is at most the interval
pub IsTable-within : (interval count : ℕ) (steps : List ℕ) → interval < 2 ^ 32 → 1 ≤ count → count ≤ 1024
    → IsTable interval 1024 steps → get_or steps (count - 1) 0 ≤ interval
IsTable-within interval count steps short positive within table =
    rw (IsTable-entry interval count steps positive within table) (step_of-le interval count short positive)
