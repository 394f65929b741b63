-- Pick: expired items are removed, CoDel drops some of the rest, and the next item goes into flight.
use Rattle.std.specs.Prelude.{ℕ, ◌+◌, ◌^◌, nat_le, ◌==◌, not, ◌&&◌, max, Bool, if◌then◌else◌, Option, Some, None}
use Rattle.std.specs.Prelude.{List, [], ◌∷◌, ◌++◌, length, map, take, drop}
use Rattle.rly_core.specs.declared.ids.HopId.{HopId}
use Rattle.rly_core.specs.declared.params.Params.{Params}
use Rattle.rly_core.specs.declared.refusal.Refusal.TheVariants.{NoSuchHop, BadMoment, WindowFull, Empty, Spent}
use Rattle.rly_codel.specs.Cases.{DequeueOutcome, dequeue_of}
use Rattle.rly_codel.specs.LaneItems.{LaneItem}
use Rattle.rly_machine.specs.declared.hop.Item.{Item}
use Rattle.rly_machine.specs.declared.reply.Reply.{Reply}
use Rattle.rly_machine.specs.declared.reply.Reply.TheVariants.{Picked, Nothing, Refused}
use Rattle.rly_machine.specs.State.{State, HopState, has_hop, hop_at, next_number}
use Rattle.rly_machine.specs.Accepted.{accept, max_seq, unless}
use Rattle.rly_machine.specs.Expiry.{after_expiry, expired_count}

-- CoDel's view of a queue
abbrev pub waiting_of : {P : Type 0} → (P → ℕ) → List (Item P) → List LaneItem
waiting_of len queue = map (λ item. record { stamp = item.stamp; bytes = len item.payload }) queue

-- true if a pick would change nothing: no item waits, and CoDel is idle
abbrev pub is_idle : {P : Type 0} → HopState P → Bool
is_idle h = (length h.queue == 0) && ((h.codel.first_above_time == 0) && not h.codel.dropping)

-- the checks of Pick
abbrev pub pick_refusal : {P : Type 0} → State P → HopId → ℕ → Option Reply
pick_refusal s hop now =
    if not (has_hop s hop) then Some (Refused NoSuchHop)
    else if nat_le (2 ^ 52) now then Some (Refused BadMoment)
    else if nat_le s.params.window (length (hop_at s hop).flight) then Some (Refused WindowFull)
    else if is_idle (hop_at s hop) then Some (Refused Empty)
    else if nat_le max_seq s.seq then Some (Refused Spent)
    else None

-- CoDel's decision for a hop at a time, or at the hop's last time if that is later
abbrev pub outcome_of : {P : Type 0} → (P → ℕ) → Params → HopState P → ℕ → DequeueOutcome
outcome_of len params h now = dequeue_of params (max now h.moment) (waiting_of len h.queue) h.codel

-- a hop whose first waiting items were dropped
abbrev pub with_dropped : {P : Type 0} → HopState P → ℕ → HopState P
with_dropped h count = record h { queue = drop count h.queue; dropped = h.dropped + count }

-- a hop whose first waiting item, if there is one, went into flight
abbrev pub with_sent : {P : Type 0} → HopState P → HopState P
with_sent h = record h { queue = drop 1 h.queue; flight = h.flight ++ take 1 h.queue }

-- a hop after CoDel's decision: the dropped items are gone, and the next item is in flight
abbrev pub with_picked : {P : Type 0} → HopState P → ℕ → DequeueOutcome → HopState P
with_picked h now outcome =
    with_sent (with_dropped (record h { codel = outcome.state; moment = max now h.moment }) outcome.dropped)

-- CoDel's decision at a pick, for the queue without the expired items
abbrev pub pick_outcome : {P : Type 0} → (P → ℕ) → Params → HopState P → ℕ → DequeueOutcome
pick_outcome len params h now = outcome_of len params (after_expiry h now) now

-- a hop after a pick: the expired and the dropped items are gone, and the next item is in flight
abbrev pub after_pick : {P : Type 0} → (P → ℕ) → Params → HopState P → ℕ → HopState P
after_pick len params h now = with_picked (after_expiry h now) now (pick_outcome len params h now)

-- the reply if items remain after the expired and the dropped ones: the first of them got a number
abbrev pub picked_reply : {P : Type 0} → ℕ → (expired dropped : List ℕ) → List (Item P) → Reply
picked_reply number expired dropped [] = Nothing expired
picked_reply number expired dropped (item ∷ behind) = Picked number item.id expired dropped

-- the reply to a pick, from the number of items that expire and the number that are dropped after them
abbrev pub pick_reply : {P : Type 0} → HopState P → (expired dropped : ℕ) → Reply
pick_reply h expired dropped =
    picked_reply (next_number h) (map (λ item. item.id) (take expired h.queue))
    (map (λ item. item.id) (take dropped (drop expired h.queue))) (drop dropped (drop expired h.queue))

-- the step of Pick
abbrev pub pick_step : {P : Type 0} → (P → ℕ) → State P → HopId → ℕ → State P × Reply
pick_step len s hop now = unless (pick_refusal s hop now) s (
  accept s hop (after_pick len s.params (hop_at s hop) now),
  pick_reply (hop_at s hop) (expired_count (hop_at s hop) now) (pick_outcome len s.params (hop_at s hop) now).dropped,
)
