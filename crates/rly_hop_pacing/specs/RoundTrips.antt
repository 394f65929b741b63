-- The round-trip estimate of a hop, in whole microseconds, and its timeout (RFC 6298, section 2).
use Rattle.std.specs.Prelude.{ℕ, ◌+◌, ◌-◌, ◌*◌, ◌/◌, max, min, Option, None, Some}
use Rattle.rly_hop_pacing.specs.declared.round_trip.RoundTrip.{RoundTrip}

-- RFC 6298, (2.2): the first sample is the round trip, and half of it the variation, rounded down
abbrev pub first_round_trip : ℕ → RoundTrip
first_round_trip sample = record { smoothed = sample; variation = sample / 2 }

-- the distance of a sample from the round trip
abbrev pub deviation : ℕ → ℕ → ℕ
deviation a b = (a - b) + (b - a)

-- RFC 6298, (2.3): a further sample counts an eighth, and its distance a quarter, each rounded down. The variation
-- uses the round trip before the sample.
abbrev pub next_round_trip : RoundTrip → ℕ → RoundTrip
next_round_trip t sample = record {
  smoothed = (7 * t.smoothed + sample) / 8;
  variation = (3 * t.variation + deviation t.smoothed sample) / 4;
}

-- a sample of this many microseconds, of which at most 2^32 - 1 count
abbrev pub after_sample : Option RoundTrip → ℕ → RoundTrip
after_sample None passed = first_round_trip (min passed 4294967295)
after_sample (Some t) passed = next_round_trip t (min passed 4294967295)

-- RFC 6298, (2.3): the round trip and four times the variation, but at least the clock's granularity, a microsecond;
-- and at least half a round trip more, since a repeat that is known to be needed goes out a quarter after it
abbrev pub measured_wait : RoundTrip → ℕ
measured_wait t = t.smoothed + max (max (4 * t.variation) (t.smoothed / 2)) 1

-- the wait before a Timeout that isn't doubled: RFC 6298, (2.1) has the second before the first sample
abbrev pub plain_wait : ℕ → Option RoundTrip → ℕ
plain_wait resend None = max resend 1000000
plain_wait resend (Some t) = max resend (measured_wait t)

-- RFC 6298, (5.5) and (2.5): a Timeout doubles the wait, up to the longest, and never lowers it
abbrev pub doubled_wait : (wait longest : ℕ) → ℕ
doubled_wait wait longest = max wait (min (2 * wait) longest)

-- The longest doubled wait if this much is left of the contact: a sixteenth of it, at least 10 seconds and at most 60. It is 60
-- if the contact has no end.
abbrev pub longest_wait : Option ℕ → ℕ
longest_wait None = 60000000
longest_wait (Some left) = min (max (left / 16) 10000000) 60000000
