-- Dequeue by cases (RFC 8289 section 5): on the front, on whether CoDel is armed and dropping, and
-- on drop times. No loop.
use Rattle.std.specs.Prelude.{ℕ, ◌+◌, ◌-◌, ◌*◌, true, false, not, ◌&&◌, nat_eq, nat_lt, if◌then◌else◌, List}
use Rattle.rly_core.specs.declared.params.Params.{Params}
use Rattle.rly_law.specs.ControlLaw.{step_of}
use Rattle.rly_codel.specs.LaneItems.{LaneItem}
use Rattle.rly_codel.specs.Front.{front_of, is_armed}
use Rattle.rly_codel.specs.DropTimes.{drop_time, drops_due}
use Rattle.rly_codel.specs.declared.state.CodelState.{CodelState}

-- the result of a dequeue: the number of items dropped from the front, and the new state. The next item, if there is
-- one, is delivered.
pub record DequeueOutcome : Type 0 where
  pub dropped : ℕ
  pub state : CodelState

-- not armed: nothing is dropped. If the first item is over, the interval begins or continues; if not, no interval is
-- on.
abbrev pub unarmed_outcome : Params → ℕ → ℕ → CodelState → DequeueOutcome
unarmed_outcome p now m s = record {
  dropped = 0;
  state = record s {
    first_above_time =
        if nat_eq m 0
        then 0
        else (if nat_eq s.first_above_time 0 then now + p.interval else s.first_above_time);
    dropping = false;
  };
}

-- armed, but the first item isn't over: nothing is dropped
abbrev pub below_target : CodelState → DequeueOutcome
below_target s = record { dropped = 0; state = record s { first_above_time = 0; dropping = false } }

-- the initial count of a dropping phase: the growth of the count in the last phase (the RFC's delta), if that is above
-- 1 and that phase is less than 16 intervals ago; else 1
abbrev pub first_count : Params → ℕ → CodelState → ℕ
first_count p now s =
    if nat_lt 1 (s.count - s.lastcount) && nat_lt now (s.drop_next + 16 * p.interval)
    then s.count - s.lastcount
    else 1

-- armed, the first item is over, and no dropping phase is on: it is dropped, and a phase begins
abbrev pub phase_begins : Params → ℕ → ℕ → CodelState → DequeueOutcome
phase_begins p now m s = record {
  dropped = 1;
  state = record {
    first_above_time = if nat_eq m 1 then 0 else s.first_above_time;
    drop_next = now + step_of p.interval (first_count p now s);
    count = first_count p now s;
    lastcount = first_count p now s;
    dropping = true;
  };
}

-- armed, the first item is over, and a dropping phase is on: each due drop, up to the end of the front. If all of the
-- front is dropped, the phase ends, and the last drop sets no new time.
abbrev pub phase_goes_on : Params → ℕ → ℕ → CodelState → DequeueOutcome
phase_goes_on p now m s =
    let step : ℕ → ℕ = step_of p.interval in
    let k : ℕ = drops_due step now s.drop_next s.count m in
    if nat_lt k m
    then (record {
      dropped = k;
      state = record s { count = s.count + k; drop_next = drop_time step s.drop_next s.count k };
    })
    else (record {
      dropped = m;
      state = record s {
        first_above_time = 0;
        drop_next = drop_time step s.drop_next s.count (m - 1);
        count = s.count + m;
        dropping = false;
      };
    })

-- dequeue by cases
unfoldable pub dequeue_of : Params → ℕ → List LaneItem → CodelState → DequeueOutcome
dequeue_of p now queue s =
    let m : ℕ = front_of p now queue in
    if not (is_armed now s)
    then unarmed_outcome p now m s
    else (if nat_eq m 0
    then below_target s
    else (if s.dropping then phase_goes_on p now m s else phase_begins p now m s))
