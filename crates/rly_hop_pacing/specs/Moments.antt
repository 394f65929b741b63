-- Moments to come, in microseconds.
use Rattle.std.specs.Prelude.{ℕ, ◌+◌, ◌-◌, ◌^◌, ◌<◌, min, nat_le, if◌then◌else◌, List, [], ◌∷◌, Option, Some, None, ⊤}

-- the moment at which a wait since a moment will have passed, if it hasn't passed yet
abbrev pub moment_after : (since wait at : ℕ) → Option ℕ
moment_after since wait at = if nat_le wait (at - since) then None else Some (min (since + wait) (2 ^ 64 - 1))

-- the earlier of two moments, if there is one
abbrev pub sooner : Option ℕ → Option ℕ → Option ℕ
sooner None other = other
sooner (Some moment) None = Some moment
sooner (Some moment) (Some other) = Some (min moment other)

-- the earliest of these
abbrev pub soonest : List (Option ℕ) → Option ℕ
soonest [] = None
soonest (moment ∷ others) = sooner moment (soonest others)

-- a moment is before another one, if that one comes
abbrev pub IsBefore : ℕ → Option ℕ → Type 0
IsBefore t None = ⊤
IsBefore t (Some moment) = t < moment
