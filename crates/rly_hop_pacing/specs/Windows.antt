-- How many datagrams may be on the way to a hop whose rate isn't known (after BBR; docs/ARCHITECTURE.md, "The pace of a
-- hop"). Times are microseconds.
use Rattle.std.specs.Prelude.{ℕ, ◌+◌, ◌-◌, ◌*◌, ◌/◌, ◌^◌, ◌==◌, min, max, nat_le, nat_lt, Bool, true, false, not}
use Rattle.std.specs.Prelude.{◌&&◌, ◌||◌, if◌then◌else◌}
use Rattle.rly_hop_pacing.specs.declared.congestion.Congestion.{Congestion}
use Rattle.rly_hop_pacing.specs.declared.congestion.DeliveryRate.{DeliveryRate}
use Rattle.rly_hop_pacing.specs.declared.congestion.Span.{Span}

-- the faster of two rates
abbrev pub faster : DeliveryRate → DeliveryRate → DeliveryRate
faster a b = if nat_lt (a.numbers * b.micros) (b.numbers * a.micros) then b else a

-- how many numbers are heard in this many microseconds at this many sixteenths of a rate, rounded up
abbrev pub passed_in : DeliveryRate → (micros sixteenths : ℕ) → ℕ
passed_in r micros sixteenths =
    (r.numbers * micros * sixteenths + (16 * max r.micros 1 - 1)) / (16 * max r.micros 1)

-- no round yet, and one round more
abbrev pub first_span : Span
first_span = record { rate = record { numbers = 0; micros = 1 }; shortest = 2 ^ 32 - 1 }

abbrev pub span_with : Span → DeliveryRate → Span
span_with s rate = record { rate = faster s.rate rate; shortest = min s.shortest rate.micros }

-- The start, and each opening of a contact: ten (RFC 6928), or the hop's window if its rate is known.
abbrev pub first_congestion : (window : ℕ) → (is_rated : Bool) → Congestion
first_congestion window is_rated = record {
  window = min window 64;
  is_rated = is_rated;
  allowed = if is_rated then min window 64 else min (min window 64) 10;
  is_starting = true;
  span = first_span;
  before = first_span;
  rounds = 0;
  calm = 0;
}

-- the shortest round of this span and the one before
abbrev pub shortest : Congestion → ℕ
shortest c = min c.span.shortest c.before.shortest

-- A buffer of the link fills: a round trip takes an eighth longer than the shortest round. A round trip that takes less
-- than 4 milliseconds longer says nothing (RFC 9406): the ends' disks and threads take as long.
abbrev pub is_full : Congestion → ℕ → Bool
is_full c trip = nat_le (shortest c + max (shortest c / 8) 4000) trip

-- How many numbers count as heard in a round: those that were, and, unless the link is full or the window still
-- doubles, what was sent again, up to half as many.
abbrev pub numbers_of : Congestion → (heard repeats trip : ℕ) → ℕ
numbers_of c heard repeats trip =
    min (min (heard + (if c.is_starting || is_full c trip then 0 else min repeats (heard / 2))) (2 ^ 64 - 1)) (2 ^ 16 - 1)

-- a round of a span of eight is over; after the last, another span begins
abbrev pub with_step : Congestion → Congestion
with_step c =
    if nat_lt c.rounds 7 then record c { rounds = c.rounds + 1 }
    else record c { rounds = 0; is_starting = false; before = c.span; span = first_span }

-- The window that keeps the greatest rate of two spans: twice as much as it brings in the shortest round while
-- starting, then an eighth more, and in the first round of a span a sixteenth less. A round counts as at least 4
-- milliseconds.
abbrev pub fitting : Congestion → ℕ
fitting c =
    let rate = faster c.span.rate c.before.rate in
    let round = max (shortest c) 4000 in
    min (if c.is_starting then max (passed_in rate round 32) 10
    else (if c.rounds == 0 then max (passed_in rate round 15) 4 else max (passed_in rate round 18) 4))
    c.window

-- the window after a round in which it was used up: after 64 rounds without a repeat it grows by one
abbrev pub widened : Congestion → Congestion
widened c =
    if not c.is_starting && nat_le 64 c.calm then record c { allowed = min (c.allowed + 1) c.window }
    else record (with_step c) { allowed = fitting (with_step c) }

-- A round is over: the rate at which numbers were heard in it, whether it had repeats, and whether the link is full.
abbrev pub with_round : Congestion → (heard micros repeats trip : ℕ) → Congestion
with_round c heard micros repeats trip =
    let span = span_with c.span (record { numbers = numbers_of c heard repeats trip; micros = max (min micros (2 ^ 32 - 1)) 1 }) in
    let calm = if nat_lt 0 repeats then 0 else min (c.calm + 1) (2 ^ 64 - 1) in
    record c { span = span; calm = calm; is_starting = c.is_starting && not (is_full (record c { span = span }) trip) }

abbrev pub on_round : Congestion → (heard micros repeats trip : ℕ) → (is_limited : Bool) → Congestion
on_round c heard micros repeats trip is_limited =
    if c.is_rated then c
    else (if is_limited then widened (with_round c heard micros repeats trip) else with_round c heard micros repeats trip)
