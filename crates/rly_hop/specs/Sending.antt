-- The sending end of custody: the transition on each event, row by row (docs/PROTOCOL.md, "The sending core").
use Rattle.std.specs.Prelude.{ℕ, ◌+◌, ◌-◌, ◌^◌, Bool, true, false, ◌&&◌, not, ◌==◌, nat_lt, nat_le, if◌then◌else◌}
use Rattle.std.specs.Prelude.{max, Option, Some, None, is_some, List, [], ◌∷◌}
use Rattle.std.specs.Option.{option_map, option_map_or}
use Rattle.std.specs.List.{list_any}
use Rattle.rly_core.specs.Refusals.{number_of}
use Rattle.rly_core.specs.declared.refusal.Refusal.{Refusal}
use Rattle.rly_hop.specs.declared.message.StationId.{StationId}
use Rattle.rly_hop.specs.declared.message.Message.TheVariants as message
use Rattle.rly_hop.specs.declared.sending.event.OutEvent.{OutEvent}
use Rattle.rly_hop.specs.declared.sending.event.OutEvent.TheVariants.{Turn, WindowIs, Picked, Nothing, Fetched, Timeout}
use Rattle.rly_hop.specs.declared.sending.event.OutEvent.TheVariants.{Released, Unchanged, Refused, Other, Heard}
use Rattle.rly_hop.specs.declared.sending.event.OutAction.{OutAction}
use Rattle.rly_hop.specs.declared.sending.event.OutAction.TheVariants.{AskWindow, Release, Fetch, Pick, Send}
use Rattle.rly_hop.specs.Rows.{first_row}
use Rattle.rly_hop.specs.Sender.{Sender}

-- the result of an event: the state, and the requested action, if any
abbrev pub SendingResult : Type 0
SendingResult = Sender × Option (OutAction (List ℕ))

-- the call that a turn requests, row by row: the first row that matches decides
abbrev pub turn_action : Sender → Bool → Option (OutAction (List ℕ))
turn_action s is_open = first_row (
    (not s.ready, Some AskWindow)
    ∷ (is_some s.acked, option_map Release s.acked)
    ∷ (not is_open, None)
    ∷ (nat_lt s.cursor s.next, Some (Fetch s.cursor))
    ∷ ((s.cursor == s.next) && nat_lt (s.next - s.first) s.window, Some Pick)
    ∷ []) None

-- a release was answered: the flight begins after the acknowledged number
abbrev pub after_release : Sender → Option ℕ → Sender
after_release s None = s
after_release s (Some a) = record s { first = a + 1; cursor = max s.cursor (a + 1); acked = None }

-- the hop's station has all numbers up to last
abbrev pub after_custody : Sender → StationId → StationId → ℕ → Sender
after_custody s from to last =
    if (from.0 == s.hop.0) && (to.0 == s.own.0) && s.ready && nat_le s.first last && nat_lt last s.next
    then record s { acked = Some (option_map_or (λ a. max a last) s.acked last) } else s

-- whether a Heard of the numbers up to last, and of some after it, is on the flight
abbrev pub reports_flight : Sender → StationId → StationId → ℕ → Bool
reports_flight s from to last =
    (from.0 == s.hop.0) && (to.0 == s.own.0) && s.ready && nat_le (s.first - 1) last && nat_lt last s.next

-- the refusals after which the core asks for the window again
abbrev pub is_unsure : Refusal → Bool
is_unsure refusal = list_any (λ unsure. number_of refusal == unsure) (9 ∷ 10 ∷ 11 ∷ 12 ∷ 31 ∷ [])

-- the action that sends a number again: one in flight that the core has sent, which is below its cursor
abbrev pub repeat_action : Sender → ℕ → ℕ → List ℕ → Option (OutAction (List ℕ))
repeat_action s number limit payload =
    if s.ready && nat_le s.first number && nat_lt number s.cursor
    then Some (Send (message.Data s.own s.hop number limit payload)) else None

-- each event, row by row: the first row that matches decides
abbrev pub sending_step : Sender → OutEvent (List ℕ) → SendingResult
sending_step s (Turn is_open) = (s, turn_action s is_open)
sending_step s (WindowIs first next) = (
  if nat_le first next
      then record s { ready = true; first = first; next = next; cursor = first; acked = None } else s,
  None,
)
sending_step s (Picked number) =
    (if s.ready && (number == s.next) && nat_lt number (2 ^ 64 - 1) then record s { next = number + 1 } else s, None)
sending_step s (Fetched number limit payload) =
    if s.ready && (number == s.cursor) && nat_lt s.cursor s.next
    then (record s { cursor = number + 1 }, Some (Send (message.Data s.own s.hop number limit payload))) else (s, None)
sending_step s Released = (after_release s s.acked, None)
sending_step s Unchanged = (after_release s s.acked, None)
sending_step s (Heard (message.Custody from to last)) = (after_custody s from to last, None)
sending_step s (Heard (message.Data from to number limit payload)) = (s, None)
sending_step s (Heard (message.Refused from to number refusal)) = (s, None)
sending_step s (Heard (message.Heard from to last bits)) = (s, None)
sending_step s Timeout = (record s { cursor = s.first }, None)
sending_step s (Refused refusal) = (if is_unsure refusal then record s { ready = false } else s, None)
sending_step s Nothing = (s, None)
sending_step s Other = (s, None)

-- the initial core
abbrev pub sender : StationId → StationId → ℕ → Sender
sender own hop window = record {
  own = own;
  hop = hop;
  window = window;
  ready = false;
  first = 1;
  next = 1;
  cursor = 1;
  acked = None;
}
