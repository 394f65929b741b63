-- When a sending worker has something to do by itself (docs/ARCHITECTURE.md, "The pace of a hop"). Moments are microseconds.
use Rattle.std.specs.Prelude.{ℕ, ◌≡◌, ◌⊎◌, ◌/◌, nat_lt, Bool, false, not, ◌&&◌, ◌||◌, if◌then◌else◌, map, filter}
use Rattle.std.specs.Prelude.{Option, None, Some, is_some, []}
use Rattle.rly_hop_pacing.specs.CongestionControl.{ControlView, first_of, is_missing, is_recovering, is_timeout, is_wide}
use Rattle.rly_hop_pacing.specs.CongestionControl.{may_time_out, on_time, open_room, probe_wait, quiet_if_probe}
use Rattle.rly_hop_pacing.specs.CongestionControl.{repeats, slack, spare_number, waiting_since, window_room}
use Rattle.rly_hop_pacing.specs.Flights.{sent_numbers}
use Rattle.rly_hop_pacing.specs.Moments.{moment_after, sooner, soonest}
use Rattle.rly_hop_pacing.specs.Pacers.{pacer_moment}
use Rattle.rly_hop_pacing.specs.Scoreboards.{is_heard, passed_after, repeated_after}
use Rattle.rly_hop_pacing.specs.Timers.{round_trip, timer_moment}
use Rattle.rly_hop_pacing.specs.Windows.{shortest}

-- the first number that goes out again now
abbrev pub first_missing : ControlView → ℕ → Option ℕ
first_missing p at = first_of (filter (is_missing p at) (sent_numbers p.flight))

-- whether something is to be sent if there is room: a number again, or a new one, which the caller's core wants to send
abbrev pub has_to_send : ControlView → ℕ → (wants : Bool) → Bool
has_to_send p at wants = wants || is_some (first_missing p at) || is_some (spare_number p at)

-- whether it may be sent
abbrev pub can_send : ControlView → ℕ → (wants : Bool) → Bool
can_send p at wants = has_to_send p at wants && nat_lt 0 (open_room p at)

-- whether a turn at this moment has something to do if no packet comes: a Timeout is due, or something may be sent
abbrev pub has_work : ControlView → ℕ → (wants : Bool) → Bool
has_work p at wants = is_timeout p at || can_send p at wants

-- That it has nothing to do, as the turn sees it: no Timeout is due, and there is no room, or nothing goes out again and
-- nothing new is wanted.
abbrev pub IsIdle : ControlView → ℕ → (wants : Bool) → Type 0
IsIdle p at wants = (is_timeout p at ≡ false) × ((open_room (on_time p at) at ≡ 0)
    ⊎ (((most : ℕ) → repeats (on_time p at) most at ≡ []) × (spare_number (on_time p at) at ≡ None) × (wants ≡ false)))

-- Moments after `at`, if there are any. The first is that of the Timeout, if none is due.
abbrev pub next_timeout : ControlView → ℕ → Option ℕ
next_timeout p at = if may_time_out p then timer_moment p.timer (waiting_since p) at else None

-- that at which a number begins to be missing
abbrev pub missing_after : ControlView → (at number : ℕ) → Option ℕ
missing_after p at number =
    if p.is_reporting && not (is_heard p.board number)
    then passed_after p.board number at (slack p) else None

-- a moment, if the window is full and something was heard within two round trips then
abbrev pub while_wide : ControlView → Option ℕ → Option ℕ
while_wide p None = None
while_wide p (Some moment) = if is_wide p moment then Some moment else None

-- that at which a number begins to be spare
abbrev pub spare_after : ControlView → (at number : ℕ) → Option ℕ
spare_after p at number =
    if not (is_heard p.board number)
    then while_wide p (repeated_after p.board number at (round_trip p.timer / 4)) else None

-- the first at which a number that was sent begins to be missing or spare
abbrev pub number_after : ControlView → (at number : ℕ) → Option ℕ
number_after p at number = sooner (missing_after p at number) (spare_after p at number)

abbrev pub again_after : ControlView → ℕ → Option ℕ
again_after p at = soonest (map (number_after p at) (sent_numbers p.flight))

-- that of the probe
abbrev pub probe_from : ControlView → ℕ → Option ℕ → Option ℕ
probe_from p at None = None
probe_from p at (Some since) = moment_after since (probe_wait p) at

abbrev pub probe_after : ControlView → ℕ → Option ℕ
probe_after p at = probe_from p at (quiet_if_probe p p.news_at)

-- whether the pacer alone may hold back what is to be sent
abbrev pub is_paced : ControlView → ℕ → Bool
is_paced p at = not p.congestion.is_rated && not (is_recovering p) && nat_lt 0 (window_room p at)

-- that at which the pacer has room, if it has none and that alone holds back what is to be sent
abbrev pub credit_after : ControlView → ℕ → (wants : Bool) → Option ℕ
credit_after p at wants =
    if has_to_send p at wants && is_paced p at
    then pacer_moment p.pacer p.congestion.allowed (shortest p.congestion) at else None

-- The next moment at which a turn may have something to do if no packet comes: this one, if it has already, or the
-- earliest of those after it.
abbrev pub next_moment : ControlView → ℕ → (wants : Bool) → Option ℕ
next_moment p at wants =
    if not p.is_open then None
    else (if has_work p at wants then Some at
    else sooner (next_timeout p at) (sooner (again_after p at) (sooner (probe_after p at) (credit_after p at wants))))
