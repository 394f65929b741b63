-- Take: a datagram arrives. Its checks run in order: the first that fails gives the reply, and nothing changes.
use Rattle.std.specs.Prelude.{ℕ, ◌+◌, ◌-◌, ◌^◌, nat_lt, nat_le, ◌||◌, not, max, Bool, if◌then◌else◌}
use Rattle.std.specs.Prelude.{[], ◌∷◌, ◌++◌, slice_set, Option, Some, None}
use Rattle.rly_core.specs.declared.ids.HopId.{HopId}
use Rattle.rly_core.specs.declared.ids.PeerId.{PeerId}
use Rattle.rly_core.specs.declared.refusal.Refusal.TheVariants.{NoSuchPeer, NoSuchHop, BadMoment}
use Rattle.rly_core.specs.declared.refusal.Refusal.TheVariants.{TooLong, Gap, Full, Spent}
use Rattle.rly_machine.specs.declared.reply.Reply.{Reply}
use Rattle.rly_machine.specs.declared.reply.Reply.TheVariants.{Taken, Already, Refused}
use Rattle.rly_machine.specs.Accepted.{accept, max_seq, unless}
use Rattle.rly_machine.specs.State.{State, HopState, has_hop, has_peer, hop_at, last_at, live_items, live_bytes}

-- true if a payload of that length has no room
abbrev pub is_full : {P : Type 0} → (P → ℕ) → State P → ℕ → Bool
is_full len s bytes = nat_le s.params.items (live_items s) || nat_lt s.params.bytes (live_bytes len s + bytes)

-- the checks of Take
abbrev pub take_refusal : {P : Type 0} → (P → ℕ) → State P → PeerId → ℕ → HopId → ℕ → ℕ → ℕ → Option Reply
take_refusal len s peer number hop stamp limit bytes =
    if not (has_peer s peer) then Some (Refused NoSuchPeer)
    else if not (has_hop s hop) then Some (Refused NoSuchHop)
    else if nat_le (2 ^ 52) stamp then Some (Refused BadMoment)
    else if nat_le (2 ^ 40) limit then Some (Refused BadMoment)
    else if nat_lt s.params.payload bytes then Some (Refused TooLong)
    else if nat_le number (last_at s peer) then Some (Already (last_at s peer))
    else if nat_lt (last_at s peer + 1) number then Some (Refused (Gap (last_at s peer + 1)))
    else if is_full len s bytes then Some (Refused Full)
    else if nat_le max_seq s.seq then Some (Refused Spent)
    else None

-- a hop that took a payload at the back of its queue; its stamp is at least the hop's last time
abbrev pub with_taken : {P : Type 0} → HopState P → (id stamp limit : ℕ) → P → HopState P
with_taken h id stamp limit payload = record h {
  queue = h.queue ++ (record { id = id; stamp = max stamp h.moment; limit = limit; payload = payload }) ∷ [];
  moment = max stamp h.moment;
  taken = h.taken + 1;
}

-- the step of Take
abbrev pub take_step : {P : Type 0} → (P → ℕ) → State P → PeerId → ℕ → HopId → ℕ → ℕ → P → State P × Reply
take_step len s peer number hop stamp limit payload =
    unless (take_refusal len s peer number hop stamp limit (len payload)) s (
      record (accept s hop (with_taken (hop_at s hop) (s.seq + 1) stamp limit payload)) {
        lasts = slice_set s.lasts (peer.0 - 1) number;
      },
      Taken (s.seq + 1),
    )
