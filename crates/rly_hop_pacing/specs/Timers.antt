-- The retransmission timer of a hop (RFC 6298, sections 2 and 5).
use Rattle.std.specs.Prelude.{ℕ, ◌-◌, ◌*◌, ◌^◌, max, min, nat_le, Bool, Option, None, Some}
use Rattle.rly_hop_pacing.specs.declared.round_trip.RoundTrip.{RoundTrip}
use Rattle.rly_hop_pacing.specs.declared.timer.Timer.{Timer}
use Rattle.rly_hop_pacing.specs.Moments.{moment_after}
use Rattle.rly_hop_pacing.specs.RoundTrips.{doubled_wait, plain_wait, after_sample}

-- initially nothing is measured
abbrev pub first_timer : ℕ → Timer
first_timer resend = record { resend = resend; trip = None; wait = plain_wait resend None; longest = 60000000 }

-- the round trip: a second before the first sample
abbrev pub trip_or_second : Option RoundTrip → ℕ
trip_or_second None = 1000000
trip_or_second (Some t) = t.smoothed

abbrev pub round_trip : Timer → ℕ
round_trip t = trip_or_second t.trip

-- the wait is no longer doubled
abbrev pub timer_anew : Timer → Timer
timer_anew t = record t { wait = plain_wait t.resend t.trip }

-- a sample was taken: it ends the doubling (RFC 6298, section 5, and Karn's rule)
abbrev pub timer_on_sample : Timer → ℕ → Timer
timer_on_sample t passed = timer_anew (record t { trip = Some (after_sample t.trip passed) })

-- A hop that gets its numbers one by one covered one more, this long after the one before: a doubled wait is at most
-- twice as long.
abbrev pub timer_limited : Timer → ℕ → Timer
timer_limited t passed = record t { wait = max (plain_wait t.resend t.trip) (min t.wait (min (passed * 2) (2 ^ 64 - 1))) }

-- whether the wait has passed since a moment
abbrev pub is_past : Timer → (since at : ℕ) → Bool
is_past t since at = nat_le t.wait (at - since)

-- the moment at which it will have passed, if it hasn't
abbrev pub timer_moment : Timer → (since at : ℕ) → Option ℕ
timer_moment t since at = moment_after since t.wait at

-- RFC 6298, (5.5): a Timeout doubles the wait
abbrev pub timer_on_timeout : Timer → Timer
timer_on_timeout t = record t { wait = doubled_wait t.wait t.longest }
