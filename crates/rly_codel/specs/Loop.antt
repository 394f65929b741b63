-- The pseudocode of RFC 8289 section 5 over a list, line by line, in integers: dodequeue, dequeue and its loop.
-- `law_cases_are_the_loop` proves it equal to `Cases.antt`.
use Rattle.std.specs.Prelude.{ℕ, suc, ◌+◌, ◌-◌, ◌*◌, nat_eq, nat_le, nat_lt, List, [], ◌∷◌, drop}
use Rattle.std.specs.Prelude.{Bool, true, false, ◌&&◌, ◌||◌, if◌then◌else◌}
use Rattle.rly_core.specs.declared.params.Params.{Params}
use Rattle.rly_law.specs.ControlLaw.{step_of}
use Rattle.rly_codel.specs.LaneItems.{LaneItem, lane_bytes}
use Rattle.rly_codel.specs.Cases.{DequeueOutcome}
use Rattle.rly_codel.specs.declared.state.CodelState.{CodelState}

-- `dodequeue_result`: true if the candidate may be dropped; and the new state
pub record Candidate : Type 0 where
  pub ok_to_drop : Bool
  pub state : CodelState

-- `sojourn_time < TARGET || bytes() <= maxpacket_`
abbrev pub is_below : Params → ℕ → LaneItem → List LaneItem → Bool
is_below p now item behind = nat_lt (now - item.stamp) p.target || nat_le (lane_bytes behind) p.maxpacket

-- `dodequeue(now)`: the candidate is the front of the queue, or none
abbrev pub dodequeue : Params → ℕ → List LaneItem → CodelState → Candidate
dodequeue p now [] s = record { ok_to_drop = false; state = record s { first_above_time = 0 } }
dodequeue p now (item ∷ behind) s =
    if is_below p now item behind
    then (record { ok_to_drop = false; state = record s { first_above_time = 0 } })
    else (if nat_eq s.first_above_time 0
    then (record { ok_to_drop = false; state = record s { first_above_time = now + p.interval } })
    else (record { ok_to_drop = nat_le s.first_above_time now; state = s }))

-- one turn of the loop, the candidate dropped: `++count_`, the next candidate, and the end of the
-- phase or the next drop time
abbrev pub drop_turn : Params → ℕ → List LaneItem → CodelState → CodelState
drop_turn p now behind s =
    let r : Candidate = dodequeue p now behind (record s { count = s.count + 1 }) in
    if r.ok_to_drop
    then (record r.state { drop_next = r.state.drop_next + step_of p.interval r.state.count })
    else (record r.state { dropping = false })

-- `while (now >= drop_next_ && dropping_)`, the candidate in front
abbrev pub drop_loop : Params → ℕ → List LaneItem → CodelState → DequeueOutcome
drop_loop p now [] s = record { dropped = 0; state = s }
drop_loop p now (item ∷ behind) s =
    if nat_le s.drop_next now && s.dropping
    then (let rest : DequeueOutcome = drop_loop p now behind (drop_turn p now behind s) in
    record { dropped = suc rest.dropped; state = rest.state })
    else (record { dropped = 0; state = s })

-- the branch that enters the dropping state: one drop, the next candidate, the first count
abbrev pub enter_dropping : Params → ℕ → List LaneItem → CodelState → CodelState
enter_dropping p now behind s =
    let r : Candidate = dodequeue p now behind s in
    let delta : ℕ = r.state.count - r.state.lastcount in
    let count : ℕ =
    if nat_lt 1 delta && nat_lt now (r.state.drop_next + 16 * p.interval) then delta else 1 in
    record r.state {
      dropping = true;
      count = count;
      drop_next = now + step_of p.interval count;
      lastcount = count;
    }

-- `dequeue()`
unfoldable pub dequeue_by_loop : Params → ℕ → List LaneItem → CodelState → DequeueOutcome
dequeue_by_loop p now queue s =
    let r : Candidate = dodequeue p now queue s in
    if s.dropping
    then drop_loop p now queue (if r.ok_to_drop then r.state else record r.state { dropping = false })
    else (if r.ok_to_drop
    then (record { dropped = 1; state = enter_dropping p now (drop 1 queue) r.state })
    else (record { dropped = 0; state = r.state }))
