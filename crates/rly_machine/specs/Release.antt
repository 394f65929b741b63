-- Release: the next hop took custody of each datagram in flight up to a number.
use Rattle.std.specs.Prelude.{ℕ, ◌+◌, ◌-◌, drop, nat_le, ◌==◌, not, if◌then◌else◌, Option, Some, None}
use Rattle.rly_core.specs.declared.ids.HopId.{HopId}
use Rattle.rly_core.specs.declared.refusal.Refusal.TheVariants.{NoSuchHop, NeverSent, Spent}
use Rattle.rly_machine.specs.declared.reply.Reply.{Reply}
use Rattle.rly_machine.specs.declared.reply.Reply.TheVariants.{Released, Unchanged, Refused}
use Rattle.rly_machine.specs.Accepted.{accept, max_seq, unless}
use Rattle.rly_machine.specs.State.{State, HopState, has_hop, hop_at, next_number}

-- the number of datagrams in flight up to a given number
abbrev pub covered_count : {P : Type 0} → HopState P → ℕ → ℕ
covered_count h number = number - h.released

-- the checks of Release
abbrev pub release_refusal : {P : Type 0} → State P → HopId → ℕ → Option Reply
release_refusal s hop number =
    if not (has_hop s hop) then Some (Refused NoSuchHop)
    else if nat_le (next_number (hop_at s hop)) number then Some (Refused NeverSent)
    else if covered_count (hop_at s hop) number == 0 then Some Unchanged
    else if nat_le max_seq s.seq then Some (Refused Spent)
    else None

-- a hop whose first items in flight are gone
abbrev pub with_released : {P : Type 0} → HopState P → ℕ → HopState P
with_released h count = record h { flight = drop count h.flight; released = h.released + count }

-- the step of Release
abbrev pub release_step : {P : Type 0} → State P → HopId → ℕ → State P × Reply
release_step s hop number = unless (release_refusal s hop number) s (
  accept s hop (with_released (hop_at s hop) (covered_count (hop_at s hop) number)),
  Released (covered_count (hop_at s hop) number),
)
