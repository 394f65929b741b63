-- The lines of a hop's events (docs/COMMANDS.md, "Events"): the line that follows the last one, and its text.
use Rattle.std.specs.Prelude.{ℕ, ◌+◌, ◌-◌, ◌*◌, ◌/◌, nat_le, nat_lt, Bool, false, not, ◌&&◌, if◌then◌else◌}
use Rattle.std.specs.Prelude.{List, [], ◌∷◌, ◌++◌, codes, map, slice_index_or, Option, Some, None, option_and_then, option_map}
use Rattle.std.specs.Fmt.{decimal}
use Rattle.std.specs.List.{flat_map}
use Rattle.rly_core.specs.declared.ids.HopId.{HopId}
use Rattle.rly_plan.specs.ContactPlan.{ContactPlan, is_open, lead, next_change}
use Rattle.rly_daemon_events.specs.declared.hop_event.HopEvent.{HopEvent}
use Rattle.rly_daemon_events.specs.declared.hop_event.HopEvent.TheVariants.{Opens, Open, Busy, Idle, Closed}
use Rattle.rly_daemon_events.specs.declared.hop_look.HopLook.{HopLook}

-- a hop at a moment, by the plan and by whether its sender rests
abbrev pub look_at : ContactPlan → HopId → ℕ → Bool → HopLook
look_at plan hop now is_resting = record {
  is_open = is_open plan hop now;
  is_resting = is_resting;
  left = option_map (λ change. change - now) (next_change plan hop now);
  lead = lead plan hop;
}

-- ---- the line that follows

-- an opening is announced if it is at most this many seconds away: in seconds, rounded up
abbrev pub announced : ℕ → ℕ → Option HopEvent
announced lead left =
    if nat_le 1 left && nat_le left (lead * 1000000) then Some (Opens ((left + 999999) / 1000000)) else None

-- the line that follows the last one while the hop's link is open, and while it is closed
abbrev pub next_open : Option HopEvent → Bool → Option HopEvent
next_open (Some Open) is_resting = if is_resting then Some Idle else None
next_open (Some Busy) is_resting = if is_resting then Some Idle else None
next_open (Some Idle) is_resting = if is_resting then None else Some Busy
next_open (Some Closed) is_resting = Some Open
next_open (Some (Opens seconds)) is_resting = Some Open
next_open None is_resting = Some Open

abbrev pub next_closed : Option HopEvent → HopLook → Option HopEvent
next_closed (Some Closed) look = option_and_then (announced look.lead) look.left
next_closed (Some (Opens seconds)) look = None
next_closed (Some Open) look = Some Closed
next_closed (Some Busy) look = Some Closed
next_closed (Some Idle) look = Some Closed
next_closed None look = Some Closed

-- the line that follows the last one at a look, if one does
abbrev pub next_event : Option HopEvent → HopLook → Option HopEvent
next_event last look = if look.is_open then next_open last look.is_resting else next_closed last look

-- the lines that follow at one look: at most two
abbrev pub then_next : HopLook → Option HopEvent → List HopEvent
then_next look None = []
then_next look (Some event) = event ∷ []

abbrev pub with_next : HopLook → Option HopEvent → List HopEvent
with_next look None = []
with_next look (Some event) = event ∷ then_next look (next_event (Some event) look)

abbrev pub events_at : Option HopEvent → HopLook → List HopEvent
events_at last look = with_next look (next_event last look)

-- the last line after some more
abbrev pub last_after : Option HopEvent → List HopEvent → Option HopEvent
last_after last [] = last
last_after last (event ∷ events) = last_after (Some event) events

-- ---- the wait

-- how long no line follows by itself, in microseconds, if the link changes after this time
abbrev pub wait_before : Option HopEvent → HopLook → ℕ → ℕ
wait_before (Some Closed) look left =
    if not look.is_open && nat_lt (look.lead * 1000000) left then left - look.lead * 1000000 else left
wait_before _ look left = left

-- how long no line follows by itself while the sender goes on to rest, or not to: None if no line ever does
abbrev pub next_wait : Option HopEvent → HopLook → Option ℕ
next_wait last look = option_map (wait_before last look) look.left

-- ---- the text

abbrev pub event_text : HopEvent → List ℕ
event_text (Opens seconds) = codes "opens in " ++ decimal seconds ++ codes " s"
event_text Open = codes "open"
event_text Busy = codes "busy"
event_text Idle = codes "idle"
event_text Closed = codes "closed"

-- hop H EVENT
abbrev pub line_text : HopId → HopEvent → List ℕ
line_text hop event = codes "hop " ++ decimal hop.0 ++ codes " " ++ event_text event

-- the lines of a hop, each with its newline
abbrev pub lines_text : HopId → List HopEvent → List ℕ
lines_text hop events = flat_map (λ event. line_text hop event ++ 10 ∷ []) events

-- ---- all hops of a plan

-- the hop at a place, from 0
abbrev pub hop_at : ℕ → HopId
hop_at place = record { 0 = place + 1 }

-- the mark at a place: false if there is none
abbrev pub mark_at : List Bool → ℕ → Bool
mark_at marks place = slice_index_or marks place false

abbrev pub place_look : ContactPlan → ℕ → List Bool → ℕ → HopLook
place_look plan now resting place = look_at plan (hop_at place) now (mark_at resting place)

-- before the first line
abbrev pub none_told : ContactPlan → List (Option HopEvent)
none_told plan = map (λ hop. None) plan.hops

-- the lines of the hop at a place after its last one
abbrev pub told_at : ContactPlan → ℕ → List Bool → ℕ → Option HopEvent → List HopEvent
told_at plan now resting place last = events_at last (place_look plan now resting place)

-- the text of the lines of the hops from a place on, after these last ones, and the last ones then
abbrev pub lines_from : ContactPlan → ℕ → List Bool → ℕ → List (Option HopEvent) → List ℕ
lines_from plan now resting place [] = []
lines_from plan now resting place (last ∷ lasts) =
    lines_text (hop_at place) (told_at plan now resting place last) ++ lines_from plan now resting (place + 1) lasts

abbrev pub lasts_from : ContactPlan → ℕ → List Bool → ℕ → List (Option HopEvent) → List (Option HopEvent)
lasts_from plan now resting place [] = []
lasts_from plan now resting place (last ∷ lasts) =
    last_after last (told_at plan now resting place last) ∷ lasts_from plan now resting (place + 1) lasts

-- those of all hops
abbrev pub lines_at : ContactPlan → ℕ → List Bool → List (Option HopEvent) → List ℕ
lines_at plan now resting lasts = lines_from plan now resting 0 lasts

abbrev pub lasts_at : ContactPlan → ℕ → List Bool → List (Option HopEvent) → List (Option HopEvent)
lasts_at plan now resting lasts = lasts_from plan now resting 0 lasts

-- how long no line of the hop at a place follows its last one by itself
abbrev pub wait_at : ContactPlan → ℕ → List Bool → List (Option HopEvent) → ℕ → Option ℕ
wait_at plan now resting lasts place =
    next_wait (slice_index_or lasts place None) (place_look plan now resting place)
