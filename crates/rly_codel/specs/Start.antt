-- CoDel's initial state.
use Rattle.std.specs.Prelude.{false}
use Rattle.rly_codel.specs.declared.state.CodelState.{CodelState}

-- the state of a lane before its first dequeue
abbrev pub new_codel : CodelState
new_codel = record { first_above_time = 0; drop_next = 0; count = 0; lastcount = 0; dropping = false }
