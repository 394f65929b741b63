-- The congestion control of a hop, event by event (docs/ARCHITECTURE.md, "The pace of a hop").
use Rattle.std.specs.Prelude.{ℕ, ◌+◌, ◌-◌, ◌*◌, ◌/◌, ◌^◌, ◌==◌, min, max, nat_le, nat_lt, Bool, true, false, not}
use Rattle.std.specs.Prelude.{◌&&◌, ◌||◌, if◌then◌else◌, List, [], ◌∷◌, length, take, Option, Some, None, is_some}
use Rattle.std.specs.List.{filter}
use Rattle.std.specs.Option.{option_map_or}
use Rattle.rly_hop_pacing.specs.declared.congestion.Congestion.{Congestion}
use Rattle.rly_hop_pacing.specs.declared.congestion.Round.{Round}
use Rattle.rly_hop_pacing.specs.declared.flight.Flight.{Flight}
use Rattle.rly_hop_pacing.specs.declared.pacer.Pacer.{Pacer}
use Rattle.rly_hop_pacing.specs.declared.scoreboard.Scoreboard.{Scoreboard}
use Rattle.rly_hop_pacing.specs.declared.timer.Timer.{Timer}
use Rattle.rly_hop_pacing.specs.Flights.{covers, flight_on_covered, flight_on_sent, in_flight_count, sent_count, sent_numbers, set_back}
use Rattle.rly_hop_pacing.specs.Pacers.{first_pacer, on_paced, pacer_room}
use Rattle.rly_hop_pacing.specs.Scoreboards.{after_heard, after_sending, empty_board, forgotten, is_after_timeout, is_heard, is_passed}
use Rattle.rly_hop_pacing.specs.Scoreboards.{is_reordered, is_repeated_before, is_told, is_unanswered, last_sent}
use Rattle.rly_hop_pacing.specs.Scoreboards.{last_sent_at, on_opening, one_more}
use Rattle.rly_hop_pacing.specs.RoundTrips.{longest_wait}
use Rattle.rly_hop_pacing.specs.Timers.{first_timer, is_past, round_trip, timer_anew, timer_limited, timer_on_sample}
use Rattle.rly_hop_pacing.specs.Timers.{timer_on_timeout}
use Rattle.rly_hop_pacing.specs.Windows.{first_congestion, on_round, shortest}

-- whether a contact is open; the flight, the scoreboard, the retransmission timer, the congestion window, the pacer and
-- the round; when custody last covered more, and when a number was last heard that wasn't heard before, if it was since
-- the last Timeout; whether the first number in flight goes out again by a Timeout; the number after all that were
-- sent before the last Timeout after news; whether the hop's station ever sent a Heard; and whether a Custody ended the
-- doubling since the last Timeout
pub record ControlView : Type 0 where
  pub is_open : Bool
  pub flight : Flight
  pub board : Scoreboard
  pub timer : Timer
  pub congestion : Congestion
  pub pacer : Pacer
  pub round : Round
  pub covered_at : ℕ
  pub news_at : Option ℕ
  pub is_due : Bool
  pub recover : ℕ
  pub is_reporting : Bool
  pub is_answered : Bool

-- a round begins
abbrev pub first_round : Scoreboard → ℕ → Round
first_round b at = record { mark = b.count; began = at; news = b.news; repeats = 0; is_limited = false }

-- initially: nothing was sent, and no contact is open; `resend` in milliseconds
abbrev pub first_control : (resend window : ℕ) → (is_rated : Bool) → ControlView
first_control resend window is_rated = record {
  is_open = false;
  flight = record { covered = 0; reached = 0; highest = 0 };
  board = empty_board;
  timer = first_timer (resend * 1000);
  congestion = first_congestion window is_rated;
  pacer = first_pacer;
  round = record { mark = 0; began = 0; news = 0; repeats = 0; is_limited = false };
  covered_at = 0;
  news_at = None;
  is_due = false;
  recover = 0;
  is_reporting = false;
  is_answered = false;
}

-- this much is left of the contact that is open, or it has no end
abbrev pub on_left : ControlView → Option ℕ → ControlView
on_left p left = record p { timer = record p.timer { longest = longest_wait left } }

-- whether this opens a contact
abbrev pub is_opening : ControlView → Bool → Bool
is_opening p is_open = is_open && not p.is_open

-- The contact is open or closed. As it opens, the core starts its flight again, and what was heard is forgotten.
abbrev pub on_contact : ControlView → Bool → ControlView
on_contact p is_open =
    if is_opening p is_open
    then record p {
      is_open = true;
      flight = set_back p.flight;
      board = on_opening p.board;
      timer = timer_anew p.timer;
      congestion = first_congestion p.congestion.window p.congestion.is_rated;
      round = record p.round { mark = p.board.count };
      news_at = None;
      is_due = false;
      recover = 0;
    }
    else record p { is_open = is_open }

-- the window was answered: the numbers from first to next - 1 are in flight, and are sent from the first on
abbrev pub on_window : ControlView → (first next : ℕ) → ControlView
on_window p first next = record p {
  flight = record { covered = first - 1; reached = first - 1; highest = max p.flight.highest (next - 1) };
  board = on_opening p.board;
  round = record p.round { mark = p.board.count };
  news_at = None;
  is_due = false;
  recover = 0;
}

-- a number was heard that wasn't heard before; if one of them had been sent once, it ends the doubling (Karn's rule), once a
-- round trip was measured
abbrev pub with_news : ControlView → Scoreboard → ℕ → ControlView
with_news p before at = record p {
  news_at = if nat_lt before.news p.board.news then Some at else p.news_at;
  timer = if nat_lt before.firsts p.board.firsts && is_some p.timer.trip then timer_anew p.timer else p.timer;
}

-- the round is over as a number is heard that was sent after it began: it yields a sample of the round trip, if the
-- number was sent once
abbrev pub with_round_over : ControlView → ℕ → ControlView
with_round_over p at = record p {
  timer = if p.board.is_sample then timer_on_sample p.timer p.board.trip else p.timer;
  congestion = on_round p.congestion (p.board.news - p.round.news) (at - p.round.began) p.round.repeats p.board.trip
      (p.round.is_limited || nat_le p.congestion.allowed (p.board.count - p.round.mark));
  round = first_round p.board at;
}

abbrev pub with_round : ControlView → ℕ → ControlView
with_round p at = if nat_lt p.round.mark p.board.newest then with_round_over p at else p

-- the hop's station has the numbers up to last, and those after it whose bits are set
abbrev pub on_report : ControlView → (last bits at : ℕ) → ControlView
on_report p last bits at =
    let board = after_heard p.board (is_told last bits) at (round_trip p.timer) p.flight.covered (in_flight_count p.flight) in
    with_round (with_news (record p { board = board }) p.board at) at

-- Whether what was sent before a Timeout isn't covered yet, by a station that never sent a Heard: it may have kept none of
-- it. So it gets that again one by one, each as the one before is covered, and new numbers, of which one makes a station
-- that knows Heards send one. Only a Timeout after news begins this: one before was perhaps too early.
abbrev pub is_recovering : ControlView → Bool
is_recovering p = not p.is_reporting && nat_lt p.flight.covered (min p.recover p.flight.reached)

-- the timer after custody of more: the doubling ends once a round trip was measured
abbrev pub timer_on_covered : Timer → (is_recovering : Bool) → (passed : ℕ) → Timer
timer_on_covered t is_recovering passed =
    if is_some t.trip then timer_anew t else (if is_recovering then timer_limited t passed else t)

-- Custody of the numbers up to last was received. One that covers no number in flight changes nothing.
abbrev pub on_covered : ControlView → (last at : ℕ) → ControlView
on_covered p last at =
    let told = on_report p last 0 at in
    if covers p.flight last
    then record told {
      flight = flight_on_covered p.flight last;
      timer = timer_on_covered told.timer (is_recovering p) (at - p.covered_at);
      covered_at = at;
      news_at = Some at;
      is_due = is_recovering (record told { flight = flight_on_covered p.flight last });
    }
    else p

-- a Heard was received. One from before the last custody changes nothing.
abbrev pub on_heard : ControlView → (last bits at : ℕ) → ControlView
on_heard p last bits at =
    if nat_le p.flight.covered last && nat_le last p.flight.highest
    then on_report (record p { is_reporting = true }) last bits at else p

-- a Timeout asks for the first number in flight
abbrev pub is_due_number : ControlView → ℕ → Bool
is_due_number p number = p.is_due && (number - 1 == p.flight.covered)

-- how long a number may come after one that was sent later: a sixteenth of the round trip, and a quarter if the link
-- reorders (RFC 8985)
abbrev pub slack : ControlView → ℕ
slack p = if is_reordered p.board then round_trip p.timer / 4 else round_trip p.timer / 16

-- a full window lets no new number out, and its first number was never heard: it isn't refused by a full station
abbrev pub is_closed : ControlView → Bool
is_closed p = nat_le p.congestion.window (sent_count p.flight) && ((last_sent p.board (one_more p.flight.covered)).heard == 0)

-- Nothing was heard between two Timeouts. So of the numbers that were sent before the second one, the first eight go out
-- again.
abbrev pub is_stopped : ControlView → ℕ → Bool
is_stopped p number =
    (is_closed p && is_unanswered p.board number) && nat_le (number - p.flight.covered) 8

-- Whether a number that was sent goes out again: a Timeout asks for it, or it isn't heard, although one that was sent
-- later is, and some time has passed since (RFC 8985), or Timeouts follow each other. A station that never sent a Heard
-- may have it ahead of a gap: it gets it again by Timeouts alone.
abbrev pub is_missing : ControlView → (at number : ℕ) → Bool
is_missing p at number =
    is_due_number p number
    || ((p.is_reporting && not (is_heard p.board number)) && (is_passed p.board number at (slack p) || is_stopped p number))

-- whether a number that was sent since the last Timeout is neither heard nor missing
abbrev pub is_on_way : ControlView → (at number : ℕ) → Bool
is_on_way p at number =
    (not (is_heard p.board number) && not (is_missing p at number)) && is_after_timeout p.board number

-- how many numbers are on the way
abbrev pub way_count : ControlView → ℕ → ℕ
way_count p at = length (filter (is_on_way p at) (sent_numbers p.flight))

-- the numbers that go out again now, at most so many
abbrev pub repeats : ControlView → (most at : ℕ) → List ℕ
repeats p most at = take most (filter (is_missing p at) (sent_numbers p.flight))

-- how many more numbers may be on the way to a hop whose rate isn't known: the one that a Timeout asks for in any case
abbrev pub window_room : ControlView → ℕ → ℕ
window_room p at = max (p.congestion.allowed - way_count p at) (if p.is_due then 1 else 0)

-- how many may be sent now
abbrev pub unrated_room : ControlView → ℕ → ℕ
unrated_room p at = min (window_room p at) (pacer_room p.pacer p.congestion.allowed (shortest p.congestion) at)

-- how many numbers may be sent now, those that are sent again among them: none while the contact is closed
abbrev pub open_room : ControlView → ℕ → ℕ
open_room p at =
    if p.is_open
    then (if is_recovering p
    then (if p.is_due then 1 else 0) + (if nat_lt p.flight.reached p.recover then 1 else 0)
    else (if p.congestion.is_rated then p.congestion.window else unrated_room p at))
    else 0

-- whether a Timeout will come: a number is in flight, and none asks for it already
abbrev pub may_time_out : ControlView → Bool
may_time_out p = p.is_open && not p.is_due && nat_lt p.flight.covered p.flight.reached

-- since when it is waited for: custody last covered more, and the first number in flight was last sent
abbrev pub waiting_since : ControlView → ℕ
waiting_since p = max (last_sent_at p.board (p.flight.covered + 1)) p.covered_at

-- the wait has passed since then
abbrev pub is_timeout : ControlView → ℕ → Bool
is_timeout p at = may_time_out p && is_past p.timer (waiting_since p) at

-- Whether a Custody ends the doubling: once a round trip was measured, or while nothing new was heard since the last
-- Timeout. Else the answers to copies of a number that took long would keep the wait shorter than the round trip.
abbrev pub ends_doubling : ControlView → Bool
ends_doubling p = is_some p.timer.trip || not (is_some p.news_at)

-- A Custody of the number before the flight, or of one in it, was received: the hop's station is at work. It ends the doubling
-- of the wait. If a wait that isn't doubled has passed, the first number in flight goes out again, and nothing else does.
abbrev pub on_custody : ControlView → (at : ℕ) → ControlView
on_custody p at =
    let q = record p { timer = timer_anew p.timer; is_answered = true } in
    if ends_doubling p
    then record q { is_due = p.is_due || (is_timeout q at && not (is_timeout p at)) }
    else p

-- The number after all that the station gets one by one: a Timeout after news lets one new number out, and a further one
-- without an answer lets out four.
abbrev pub recover_after : ControlView → ℕ
recover_after p =
    if is_some p.news_at then one_more p.flight.reached
    else (if is_recovering p && not p.is_answered then min (p.flight.reached + 4) (2 ^ 64 - 1) else p.recover)

abbrev pub with_timeout : ControlView → ℕ → ControlView
with_timeout p at =
    if is_timeout p at
    then record p {
      board = forgotten p.board p.is_answered;
      timer = timer_on_timeout p.timer;
      round = first_round p.board at;
      news_at = None;
      is_due = true;
      recover = recover_after p;
      is_answered = false;
    }
    else p

-- the turn's time: a Timeout may be due, and a round in which a turn has no room uses its window up
abbrev pub on_time : ControlView → ℕ → ControlView
on_time p at =
    let q = with_timeout p at in
    record q { round = record q.round { is_limited = q.round.is_limited || (q.is_open && (open_room q at == 0)) } }

-- with a rate the window is full, and something was heard within two round trips
abbrev pub is_wide : ControlView → ℕ → Bool
is_wide p at = p.congestion.is_rated && nat_le p.congestion.window (sent_count p.flight)
    && option_map_or (λ news_at. nat_le (at - news_at) (2 * round_trip p.timer)) p.news_at false

-- the first number of a list, if there is one
abbrev pub first_of : List ℕ → Option ℕ
first_of [] = None
first_of (number ∷ others) = Some number

-- a number was sent more than once, the last time a quarter of the round trip ago, and isn't heard
abbrev pub is_spare : ControlView → (at number : ℕ) → Bool
is_spare p at number = not (is_heard p.board number) && is_repeated_before p.board number at (round_trip p.timer / 4)

abbrev pub spare_of : ControlView → ℕ → Option ℕ
spare_of p at = first_of (filter (is_spare p at) (sent_numbers p.flight))

-- whether there may be a tail loss probe: the number that was sent last, once, isn't heard
abbrev pub may_probe : ControlView → Bool
may_probe p = p.is_open && nat_lt p.flight.covered p.board.last && nat_le p.board.last p.flight.reached
    && not (is_heard p.board p.board.last) && not (last_sent p.board p.board.last).again

-- how long nothing is heard before it
abbrev pub probe_wait : ControlView → ℕ
probe_wait p = max (2 * round_trip p.timer) p.timer.resend

-- since when: the number was sent, and something was last heard
abbrev pub quiet_since : ControlView → (news_at : ℕ) → ℕ
quiet_since p news_at = max (last_sent_at p.board p.board.last) news_at

abbrev pub quiet_if_probe : ControlView → Option ℕ → Option ℕ
quiet_if_probe p None = None
quiet_if_probe p (Some news_at) = if may_probe p then Some (quiet_since p news_at) else None

-- the tail loss probe: the number that was sent last, once, if nothing was heard for two round trips
abbrev pub is_probe : ControlView → (at news_at : ℕ) → Bool
is_probe p at news_at = may_probe p && nat_le (probe_wait p) (at - quiet_since p news_at)

abbrev pub probe_since : ControlView → ℕ → Option ℕ → Option ℕ
probe_since p at None = None
probe_since p at (Some news_at) = if is_probe p at news_at then Some p.board.last else None

abbrev pub probe_number : ControlView → ℕ → Option ℕ
probe_number p at = probe_since p at p.news_at

abbrev pub first_option : Option ℕ → Option ℕ → Option ℕ
first_option None other = other
first_option (Some number) other = Some number

-- a number that goes out again if nothing else does
abbrev pub spare_number : ControlView → ℕ → Option ℕ
spare_number p at = first_option (if is_wide p at then spare_of p at else None) (probe_number p at)

-- how many of the numbers below next weren't sent since the core last started again
abbrev pub unsent_count : ControlView → ℕ → ℕ
unsent_count p next = next - p.flight.reached - 1

-- the round, as a number is sent: the first on the way begins one, and one that was sent before is a repeat
abbrev pub round_on_sent : ControlView → (number at : ℕ) → Round
round_on_sent p number at =
    if nat_le p.flight.reached p.flight.covered then first_round p.board at
    else (if nat_le number p.flight.reached then record p.round { repeats = one_more p.round.repeats } else p.round)

-- a number is sent
abbrev pub on_sent : ControlView → (number at : ℕ) → ControlView
on_sent p number at = record p {
  flight = flight_on_sent p.flight number;
  board = after_sending p.board number at;
  pacer = on_paced p.pacer p.congestion.allowed (shortest p.congestion) at;
  round = round_on_sent p number at;
  is_due = p.is_due && not (is_due_number p number);
}
