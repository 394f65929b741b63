-- The pacer of a hop whose rate isn't known (docs/ARCHITECTURE.md, "The pace of a hop").
use Rattle.std.specs.Prelude.{ℕ, ◌+◌, ◌-◌, ◌*◌, ◌/◌, ◌^◌, ◌==◌, ◌||◌, if◌then◌else◌, max, min, Option, None}
use Rattle.std.specs.Int.{div_ceil}
use Rattle.rly_hop_pacing.specs.Moments.{moment_after}
use Rattle.rly_hop_pacing.specs.declared.pacer.Pacer.{Pacer}

-- initially it is empty
abbrev pub first_pacer : Pacer
first_pacer = record { credit = 0; mark = 0 }

-- The credit at a moment: each microsecond adds as many as may be on the way. It holds two numbers, each of which costs
-- the shortest round, or 20 milliseconds.
abbrev pub credit_at : Pacer → (allowed round at : ℕ) → ℕ
credit_at p allowed round at = min (p.credit + allowed * (at - p.mark)) (max (2 * round) (20000 * allowed))

-- how many numbers may go out at a moment: before the first round is over, as many as may be on the way
abbrev pub pacer_room : Pacer → (allowed round at : ℕ) → ℕ
pacer_room p allowed round at =
    if round == 2 ^ 32 - 1 then 64 else credit_at p allowed round at / max round 1

-- a number goes out
abbrev pub on_paced : Pacer → (allowed round at : ℕ) → Pacer
on_paced p allowed round at = record { credit = credit_at p allowed round at - round; mark = max p.mark at }

-- the moment from which one may go out, if none may yet: never, if none may be on the way
abbrev pub pacer_moment : Pacer → (allowed round at : ℕ) → Option ℕ
pacer_moment p allowed round at =
    if (allowed == 0) || (round == 2 ^ 32 - 1) then None
    else moment_after p.mark (div_ceil (max round 1 - p.credit) allowed) at
