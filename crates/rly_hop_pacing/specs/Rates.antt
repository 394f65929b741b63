-- The rate of a hop: a token bucket (RFC 2697, section 3, has one bucket like it; the burst is this project's).
use Rattle.std.specs.Prelude.{ℕ, ◌+◌, ◌-◌, ◌*◌, ◌/◌, ◌^◌, ◌==◌, nat_le, nat_lt, Bool, if◌then◌else◌, max, min, List, [], ◌∷◌}
use Rattle.std.specs.Int.{div_ceil}
use Rattle.rly_hop_pacing.specs.declared.rate.Bucket.{Bucket}

-- The cost of a message, in millionths of a byte: its bytes, and 28 for the headers of IP and UDP. At a rate of R
-- bytes a second each microsecond adds R millionths of a byte, so nothing is rounded.
abbrev pub cost : ℕ → ℕ
cost bytes = (bytes + 28) * 1000000

-- the burst: two of the longest messages, or 20 milliseconds of the rate, whichever is more
abbrev pub burst : Bucket → ℕ
burst b = max (2 * cost b.longest) (20000 * b.rate)

-- initially the burst is available
abbrev pub first_bucket : ℕ → ℕ → ℕ → Bucket
first_bucket rate longest at = record {
  rate = rate;
  longest = longest;
  credit = max (2 * cost longest) (20000 * rate);
  mark = at;
}

-- the credit at a moment: unchanged if the clock hasn't risen, and at most the burst
abbrev pub refill_at : Bucket → ℕ → Bucket
refill_at b at = record b { credit = min (b.credit + b.rate * (at - b.mark)) (burst b); mark = max b.mark at }

-- whether a message of this many bytes may be sent at a moment
abbrev pub may_take : Bucket → ℕ → ℕ → Bool
may_take b bytes at = nat_le (cost bytes) (refill_at b at).credit

-- how many of the longest messages may be sent at a moment
abbrev pub room_at : Bucket → ℕ → ℕ
room_at b at = (refill_at b at).credit / cost b.longest

-- How long it takes, from the mark on, until one of the longest messages may be sent, if none may: at a rate of 0 longer
-- than there are moments.
abbrev pub refill_time : Bucket → ℕ
refill_time b = if b.rate == 0 then 2 ^ 64 - 1 else div_ceil (cost b.longest - b.credit) b.rate

-- the first moment, this one or a later one, at which one may be sent, or the last moment
abbrev pub next_room : Bucket → ℕ → ℕ
next_room b at = if nat_lt 0 (room_at b at) then at else min (b.mark + refill_time b) (2 ^ 64 - 1)

-- the bucket after a message was offered at a moment
abbrev pub on_take : Bucket → ℕ → ℕ → Bucket
on_take b bytes at =
    if may_take b bytes at
    then record (refill_at b at) { credit = (refill_at b at).credit - cost bytes }
    else refill_at b at

-- a message offered to the bucket: its length in bytes, and the moment in microseconds
pub record OutgoingMessage : Type 0 where
  pub bytes : ℕ
  pub at : ℕ

-- the cost of the messages that are sent, of all that are offered
abbrev pub bytes_spent : Bucket → List OutgoingMessage → ℕ
bytes_spent b [] = 0
bytes_spent b (s ∷ later) = (if may_take b s.bytes s.at then cost s.bytes else 0)
    + bytes_spent (on_take b s.bytes s.at) later

-- the latest of these moments and this one
abbrev pub latest : ℕ → List OutgoingMessage → ℕ
latest at [] = at
latest at (s ∷ later) = latest (max at s.at) later
