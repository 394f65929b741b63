-- The queries: Fetch, Window and Show.
use Rattle.std.specs.Prelude.{ℕ, ◌+◌, ◌-◌, ◌<◌, nat_le, ◌==◌, not, if◌then◌else◌}
use Rattle.std.specs.Prelude.{List, length, slice_get, Result, Ok, Err}
use Rattle.std.specs.Option.{ok_or}
use Rattle.rly_core.specs.declared.ids.HopId.{HopId}
use Rattle.rly_core.specs.declared.refusal.Refusal.{Refusal}
use Rattle.rly_core.specs.declared.refusal.Refusal.TheVariants.{NoSuchHop, NeverSent, NotInFlight}
use Rattle.rly_machine.specs.declared.command.Query.{Query}
use Rattle.rly_machine.specs.declared.command.Query.TheVariants.{Fetch, Window, Show}
use Rattle.rly_machine.specs.declared.hop.Item.{Item}
use Rattle.rly_machine.specs.declared.reply.HopStatus.{HopStatus}
use Rattle.rly_machine.specs.declared.reply.Reply.{Reply}
use Rattle.rly_machine.specs.declared.reply.Reply.TheVariants.{Bytes, WindowIs, Shown, Refused}
use Rattle.rly_machine.specs.State.{State, HopState, has_hop, hop_at, next_number}

-- the item in flight under a custody number, or the refusal
abbrev pub item_of : {P : Type 0} → State P → HopId → ℕ → Result (Item P) Refusal
item_of s hop number =
    if not (has_hop s hop) then Err NoSuchHop
    else if nat_le (next_number (hop_at s hop)) number then Err NeverSent
    else if nat_le number (hop_at s hop).released then Err NotInFlight
    else ok_or (slice_get (hop_at s hop).flight (number - (hop_at s hop).released - 1)) NotInFlight

-- Fetch: the bytes in flight under a number, and their limit
abbrev pub fetch_reply : Result (Item (List ℕ)) Refusal → Reply
fetch_reply (Ok item) = Bytes item.payload item.limit
fetch_reply (Err refusal) = Refused refusal

-- Window: the least number in flight, or else the next one; and the next one
abbrev pub window_reply : {P : Type 0} → State P → HopId → Reply
window_reply s hop =
    let h = hop_at s hop in
    if has_hop s hop
    then WindowIs (if length h.flight == 0 then next_number h else h.released + 1) (next_number h)
    else Refused NoSuchHop

-- all counters of a hop
abbrev pub status_of : {P : Type 0} → HopState P → HopStatus
status_of h = record {
  taken = h.taken;
  queued = length h.queue;
  flight = length h.flight;
  dropped = h.dropped;
  expired = h.expired;
  released = h.released;
  codel = h.codel;
  moment = h.moment;
}

-- Show
abbrev pub show_reply : {P : Type 0} → State P → HopId → Reply
show_reply s hop = if has_hop s hop then Shown (status_of (hop_at s hop)) else Refused NoSuchHop

-- the reply to a query
abbrev pub query_reply : State (List ℕ) → Query → Reply
query_reply s (Fetch hop number) = fetch_reply (item_of s hop number)
query_reply s (Window hop) = window_reply s hop
query_reply s (Show hop) = show_reply s hop

-- a reply that carries bytes
abbrev pub HasBytes : Reply → Type 0
HasBytes (Bytes payload limit) = 0 < length payload
HasBytes _ = ⊥
