-- Two relays whose workers wait for each reply: a core gets no other event while a call of its end waits.
use Rattle.std.specs.Prelude.{ℕ, ◌+◌, nat_lt, Bool, false, if◌then◌else◌, List, [], ◌∷◌, length}
use Rattle.rly_world.specs.PairEnd.{End}
use Rattle.rly_world.specs.PairWorld.{PairEvent, PairWorld, pair_step, Turns, Timeout, FetchesAhead, PicksAhead}
use Rattle.rly_world.specs.PairWorld.{UpperHears, LowerHears, UpperMakes, LowerMakes, UpperAnswers, LowerAnswers}
use Rattle.rly_world.specs.PairWorld.{UpperServes, LowerServes, UpperCrashes, LowerCrashes}

-- the number of calls that wait at an end, made or not
abbrev pub waiting_count : End → ℕ
waiting_count e = length e.asked + length e.replied

-- true if an event would reach a core before the reply to its call
abbrev pub is_before_answer : PairWorld → PairEvent → Bool
is_before_answer w (Turns is_open moment) = nat_lt 0 (waiting_count w.upper)
is_before_answer w Timeout = nat_lt 0 (waiting_count w.upper)
is_before_answer w (FetchesAhead number) = nat_lt 0 (waiting_count w.upper)
is_before_answer w (PicksAhead moment) = nat_lt 0 (waiting_count w.upper)
is_before_answer w (UpperHears packet) = nat_lt 0 (waiting_count w.upper)
is_before_answer w (LowerHears packet core hop stamp) = nat_lt 0 (waiting_count w.lower)
is_before_answer w (UpperMakes outcome) = false
is_before_answer w (LowerMakes outcome) = false
is_before_answer w (UpperAnswers is_sent) = false
is_before_answer w (LowerAnswers is_sent) = false
is_before_answer w (UpperServes ask outcome is_answered) = false
is_before_answer w (LowerServes ask outcome is_answered) = false
is_before_answer w (UpperCrashes kept opens) = false
is_before_answer w (LowerCrashes kept opens) = false

-- the effect of an event: an early one changes nothing
abbrev pub waiting_step : PairWorld → PairEvent → PairWorld
waiting_step w event = if is_before_answer w event then w else pair_step w event

abbrev pub waiting_after : PairWorld → List PairEvent → PairWorld
waiting_after w [] = w
waiting_after w (event ∷ events) = waiting_after (waiting_step w event) events
