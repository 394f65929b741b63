-- Data in flight, and a link that hears nothing (docs/COMMANDS.md, "rly serve"). Moments are in microseconds.
use Rattle.std.specs.Prelude.{ℕ, ◌-◌, ◌==◌, nat_le, nat_lt, max, min, if◌then◌else◌, Bool, true, false, ◌&&◌, ◌||◌, not, Option, None, Some}
use Rattle.rly_station.specs.declared.link_cause.LinkCause.{LinkCause}
use Rattle.rly_station.specs.declared.link_cause.LinkCause.TheVariants.{Silent}
use Rattle.rly_link_log.specs.declared.silence.Silence.{Silence}

-- nothing was sent or heard yet
abbrev pub no_silence : Silence
no_silence = record { least = 0; greatest = 0; covered = 0; waits = false; since = 0; last = 0 }

-- the numbers that were sent, above the custody that was heard
abbrev pub in_flight : Silence → ℕ
in_flight s = if s.greatest == 0 then 0 else s.greatest - max s.covered (s.least - 1)

-- the Data that go out unanswered begin with one at this moment: one is heard of, or none went out for two minutes
abbrev pub begins : Silence → ℕ → Bool
begins s now = not s.waits || nat_lt 120000000 (now - s.last)

-- nothing was heard for a minute in which Data went out
abbrev pub is_silent : Silence → ℕ → Bool
is_silent s now = not (begins s now) && nat_le 60000000 (now - s.since)

-- the Data of a number goes out at a moment; each minute of silence begins anew
abbrev pub after_data : Silence → (number now : ℕ) → Silence
after_data s number now = record {
  least = if s.greatest == 0 then number else min s.least number;
  greatest = max s.greatest number;
  covered = s.covered;
  waits = true;
  since = if begins s now || is_silent s now then now else s.since;
  last = now;
}

-- what it shows
abbrev pub silent_cause : Silence → (number now : ℕ) → Option LinkCause
silent_cause s number now =
    if is_silent s now && nat_lt 0 (in_flight (after_data s number now))
    then Some (Silent (in_flight (after_data s number now))) else None

-- a packet is heard, and the custody in it if it is one
abbrev pub after_packet : Silence → (custody : Option ℕ) → Silence
after_packet s None = record s { waits = false }
after_packet s (Some custody) = record s { waits = false; covered = max s.covered custody }
