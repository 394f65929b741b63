-- The scoreboard of a hop: when each number in flight was last sent, and which were heard (RFC 6675; docs/ARCHITECTURE.md,
-- "The pace of a hop"). Moments are microseconds.
use Rattle.std.specs.Prelude.{ℕ, zero, suc, ◌+◌, ◌-◌, ◌/◌, ◌%◌, ◌^◌, ◌==◌, max, min, nat_le, nat_lt, Bool, true, false, not}
use Rattle.std.specs.Prelude.{◌&&◌, ◌||◌, if◌then◌else◌, replicate, slice_index_or, slice_set, Option, None}
use Rattle.rly_hop.specs.HeardBits.{marks}
use Rattle.rly_hop_pacing.specs.declared.scoreboard.Scoreboard.{Scoreboard}
use Rattle.rly_hop_pacing.specs.declared.scoreboard.Sent.{Sent}
use Rattle.rly_hop_pacing.specs.Moments.{moment_after}

-- a slot without a number
abbrev pub not_sent : Sent
not_sent = record { number = 0; at = 0; order = 0; again = false; heard = 0 }

-- nothing was sent
abbrev pub empty_board : Scoreboard
empty_board = record {
  slots = replicate 64 not_sent;
  count = 0;
  last = 0;
  epoch = 1;
  newest = 0;
  trip = 0;
  is_sample = false;
  news = 0;
  firsts = 0;
  lost = 0;
  silent = 0;
  ahead = 0;
  late = 0;
}

-- one more, up to the last of 64 bits
abbrev pub one_more : ℕ → ℕ
one_more number = min (number + 1) (2 ^ 64 - 1)

-- a number's slot
abbrev pub slot_of : ℕ → ℕ
slot_of number = number % 64

-- the last sending of a number, or of the number that its slot has
abbrev pub last_sent : Scoreboard → ℕ → Sent
last_sent b number = slice_index_or b.slots (slot_of number) not_sent

-- when it was
abbrev pub last_sent_at : Scoreboard → ℕ → ℕ
last_sent_at b number = (last_sent b number).at

-- whether a number was heard since the last Timeout
abbrev pub is_heard : Scoreboard → ℕ → Bool
is_heard b number = ((last_sent b number).number == number) && ((last_sent b number).heard == b.epoch)

-- RFC 8985, 6.2: a number that was sent later was heard, at least this long after this one should have been
abbrev pub is_passed : Scoreboard → (number at slack : ℕ) → Bool
is_passed b number at slack =
    nat_lt (last_sent b number).order b.newest && nat_le (min (b.trip + slack) (2 ^ 64 - 1)) (at - (last_sent b number).at)

-- the moment from which this holds, if it doesn't yet and one that was sent later was heard
abbrev pub passed_after : Scoreboard → (number at slack : ℕ) → Option ℕ
passed_after b number at slack =
    if nat_lt (last_sent b number).order b.newest
    then moment_after (last_sent b number).at (min (b.trip + slack) (2 ^ 64 - 1)) at else None

-- a number was last sent after the last Timeout
abbrev pub is_after_timeout : Scoreboard → ℕ → Bool
is_after_timeout b number = nat_lt b.lost (last_sent b number).order

-- a number was last sent before a Timeout, and nothing was heard between that and the one before
abbrev pub is_unanswered : Scoreboard → ℕ → Bool
is_unanswered b number = nat_le (last_sent b number).order b.silent

-- a number was sent more than once, the last time at least this long ago
abbrev pub is_repeated_before : Scoreboard → (number at wait : ℕ) → Bool
is_repeated_before b number at wait = (last_sent b number).again && nat_le wait (at - (last_sent b number).at)

-- the moment from which this holds, if it doesn't yet and the number was sent more than once
abbrev pub repeated_after : Scoreboard → (number at wait : ℕ) → Option ℕ
repeated_after b number at wait =
    if (last_sent b number).again then moment_after (last_sent b number).at wait at else None

-- A number is sent. What was heard of it stays heard.
abbrev pub sending_after : Sent → (number at order : ℕ) → Sent
sending_after before number at order = record {
  number = number;
  at = at;
  order = order;
  again = before.number == number;
  heard = if before.number == number then before.heard else 0;
}

abbrev pub after_sending : Scoreboard → (number at : ℕ) → Scoreboard
after_sending b number at = record b {
  slots = slice_set b.slots (slot_of number) (sending_after (last_sent b number) number at (one_more b.count));
  count = one_more b.count;
  last = number;
}

-- A sending was heard: it is the latest if it was sent after the latest before. If the number was sent more than once,
-- it counts only if a round trip fits, an eighth less at most: else an earlier sending was heard (RFC 8985, 6.2).
abbrev pub is_newer : Scoreboard → Sent → (at trip : ℕ) → Bool
is_newer b sent at trip = nat_lt b.newest sent.order && (not sent.again || nat_le (trip - trip / 8) (at - sent.at))

abbrev pub with_newest : Scoreboard → Sent → (at trip : ℕ) → Scoreboard
with_newest b sent at trip =
    if is_newer b sent at trip
    then record b { newest = sent.order; trip = at - sent.at; is_sample = not sent.again && (sent.heard == 0) } else b

-- A number that was sent once was first heard after a greater one: the link reorders.
abbrev pub is_late : Scoreboard → Sent → Bool
is_late b sent = (not sent.again && (sent.heard == 0)) && nat_lt sent.number b.ahead

abbrev pub with_late : Scoreboard → Sent → Scoreboard
with_late b sent = record b { ahead = max b.ahead sent.number; late = if is_late b sent then b.epoch else b.late }

-- whether it did since the last Timeout
abbrev pub is_reordered : Scoreboard → Bool
is_reordered b = b.late == b.epoch

-- a number was heard, which counts once in an epoch
abbrev pub heard_one : Scoreboard → (at trip number : ℕ) → Scoreboard
heard_one b at trip number =
    let sent = last_sent b number in
    if not (sent.number == number) || (sent.heard == b.epoch) then b
    else record (with_late (with_newest b sent at trip) sent) {
      slots = slice_set b.slots (slot_of number) (record sent { heard = b.epoch });
      news = if sent.heard == 0 then one_more b.news else b.news;
      firsts = if (sent.heard == 0) && not sent.again then one_more b.firsts else b.firsts;
    }

abbrev pub heard_if : Bool → Scoreboard → (at trip number : ℕ) → Scoreboard
heard_if true b at trip number = heard_one b at trip number
heard_if false b at trip number = b

-- what a report of the numbers up to `last` and of the bits after it says of a number
abbrev pub is_told : (last bits number : ℕ) → Bool
is_told last bits number = nat_le number last || marks bits (number - last - 1)

-- a report on the first numbers after this one
unfoldable pub after_heard : Scoreboard → (ℕ → Bool) → (at trip covered count : ℕ) → Scoreboard
after_heard b told at trip covered zero = b
after_heard b told at trip covered (suc place) =
    heard_if (told (covered + place + 1)) (after_heard b told at trip covered place) at trip (covered + place + 1)

-- A Timeout: what was heard is forgotten. If nothing was heard since the one before, and no answer came, what was sent is
-- unanswered.
abbrev pub forgotten : Scoreboard → (is_answered : Bool) → Scoreboard
forgotten b is_answered = record b {
  epoch = one_more b.epoch;
  newest = 0;
  lost = b.count;
  silent = if (b.newest == 0) && not is_answered then b.count else b.silent;
}

-- A contact opens: what was heard is forgotten, and no earlier sending counts as the latest.
abbrev pub on_opening : Scoreboard → Scoreboard
on_opening b = record b { epoch = one_more b.epoch; newest = b.count }
