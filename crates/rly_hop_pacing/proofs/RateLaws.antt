-- The cost of a list of messages through a token bucket.
use Rattle.std.proofs.Common.{◌≡◌, ℕ, ◌+◌, ◌-◌, ◌*◌, ◌≤◌, List, [], ◌∷◌, max, min, arith}
use Rattle.std.specs.Prelude.{if◌then◌else◌}
use Rattle.rly_hop_pacing.specs.declared.rate.Bucket.{Bucket}
use Rattle.rly_hop_pacing.specs.Rates.{OutgoingMessage, burst, cost, latest, may_take, on_take, refill_at, bytes_spent}

-- the latest moment comes no earlier than the first
pub latest-after : (at : ℕ) (later : List OutgoingMessage) → at ≤ latest at later
latest-after at [] = omega arith
latest-after at (s ∷ later) = omega (arith, latest-after (max at s.at) later)

-- the cost of one message is paid from the credit at that moment
pub paid : (b : Bucket) (bytes at : ℕ) →
    (if may_take b bytes at then cost bytes else 0) + (on_take b bytes at).credit ≡ (refill_at b at).credit
paid b bytes at = grind arith

pub same_rate : (b : Bucket) (bytes at : ℕ) → (on_take b bytes at).rate ≡ b.rate
same_rate b bytes at = grind arith

pub later_mark : (b : Bucket) (bytes at : ℕ) → (on_take b bytes at).mark ≡ max b.mark at
later_mark b bytes at = grind arith

-- one step: the cost now and later is bounded by the credit, and by the burst
pub step-credit : (paid rest left credit rate gained after most : ℕ) →
    paid + left ≡ min (credit + rate * gained) most → rest ≤ left + rate * after →
    paid + rest ≤ credit + rate * (gained + after)
step-credit paid rest left credit rate gained after most e h = omega arith

pub step-burst : (paid rest left credit rate gained after most : ℕ) →
    paid + left ≡ min (credit + rate * gained) most → rest ≤ left + rate * after →
    paid + rest ≤ most + rate * after
step-burst paid rest left credit rate gained after most e h = omega arith

-- the time from the mark on is that to the moment and that from there on
pub between : (mark at end : ℕ) → max mark at ≤ end → end - mark ≡ (at - mark) + (end - max mark at)
between mark at end h = omega arith

-- the bound, for the bucket's rate and mark
moved : (after : Bucket) (later : List OutgoingMessage) (rate mark : ℕ) → after.rate ≡ rate → after.mark ≡ mark →
    bytes_spent after later ≤ after.credit + after.rate * (latest after.mark later - after.mark) →
    bytes_spent after later ≤ after.credit + rate * (latest mark later - mark)
moved after later rate mark e f h = rw (← e, ← f) h

-- over any messages, the cost is at most the credit and its growth
pub spent-bound : (b : Bucket) (asked : List OutgoingMessage) →
    bytes_spent b asked ≤ b.credit + b.rate * (latest b.mark asked - b.mark)
spent-bound b [] = omega arith
spent-bound b (s ∷ later) =
    let after = on_take b s.bytes s.at in
    let mark = later_mark b s.bytes s.at in
    let rest : bytes_spent after later ≤ after.credit + b.rate * (latest (max b.mark s.at) later - max b.mark s.at) =
    moved after later b.rate (max b.mark s.at) (same_rate b s.bytes s.at) mark (spent-bound after later) in
    let apart = between b.mark s.at (latest (max b.mark s.at) later) (latest-after (max b.mark s.at) later) in
    rw apart (step-credit _ _ after.credit b.credit b.rate (s.at - b.mark) _ (burst b) (paid b s.bytes s.at) rest)

-- the burst bounds what goes out from the first message on
pub burst-bound : (b : Bucket) (s : OutgoingMessage) (later : List OutgoingMessage) →
    bytes_spent b (s ∷ later) ≤ burst b + b.rate * (latest (max b.mark s.at) later - max b.mark s.at)
burst-bound b s later =
    let after = on_take b s.bytes s.at in
    let rest : bytes_spent after later ≤ after.credit + b.rate * (latest (max b.mark s.at) later - max b.mark s.at) =
    moved after later b.rate (max b.mark s.at) (same_rate b s.bytes s.at) (later_mark b s.bytes s.at) (spent-bound after later) in
    step-burst _ _ after.credit b.credit b.rate (s.at - b.mark) _ (burst b) (paid b s.bytes s.at) rest
