-- A sending core over a list of events.
use Rattle.std.specs.Prelude.{◌≡◌, ◌⊎◌, ℕ, ◌≤◌, ◌<◌, nat_le, Bool, true, false, Option, Some, List, [], ◌∷◌, ◌++◌}
use Rattle.std.specs.List.{list_any}
use Rattle.rly_hop.specs.declared.message.StationId.{StationId}
use Rattle.rly_hop.specs.declared.message.Message.TheVariants.{Custody, Data}
use Rattle.rly_hop.specs.declared.sending.event.OutEvent.{OutEvent}
use Rattle.rly_hop.specs.declared.sending.event.OutEvent.TheVariants.{Turn, WindowIs, Picked, Nothing, Fetched, Timeout}
use Rattle.rly_hop.specs.declared.sending.event.OutEvent.TheVariants.{Released, Unchanged, Refused, Other, Heard}
use Rattle.rly_hop.specs.declared.sending.event.OutAction.{OutAction}
use Rattle.rly_hop.specs.declared.sending.event.OutAction.TheVariants.{Send}
use Rattle.rly_hop.specs.Sender.{Sender}
use Rattle.rly_hop.specs.Sending.{sender, sending_step}

-- the state after these events, in order
abbrev pub sender_after : Sender → List (OutEvent (List ℕ)) → Sender
sender_after s [] = s
sender_after s (event ∷ events) = sender_after (sending_step s event).0 events

-- the window is known, and this number is in the flight
pub record IsInFlight (s : Sender) (n : ℕ) : Type 0 where
  pub ready : s.ready ≡ true
  pub begun : s.first ≤ n
  pub ended : n < s.next

-- among the events the hop's station acknowledged this number, which was in the core's flight at that moment
pub record IsHeardInFlight (s : Sender) (events : List (OutEvent (List ℕ))) (n : ℕ) : Type 0 where
  pub earlier : List (OutEvent (List ℕ))
  pub later : List (OutEvent (List ℕ))
  pub parts : events ≡ earlier ++ Heard (Custody s.hop s.own n) ∷ later
  pub in_flight : IsInFlight (sender_after s earlier) n

-- the answer gives this number: it lies in the window, or was picked
abbrev pub IsGivenBy : OutEvent (List ℕ) → ℕ → Type 0
IsGivenBy (WindowIs first next) n = (first ≤ n) × (n < next)
IsGivenBy (Picked number) n = n ≡ number
IsGivenBy (Turn is_open) n = ⊥
IsGivenBy (Fetched number limit payload) n = ⊥
IsGivenBy Nothing n = ⊥
IsGivenBy Released n = ⊥
IsGivenBy Unchanged n = ⊥
IsGivenBy (Refused refusal) n = ⊥
IsGivenBy Other n = ⊥
IsGivenBy (Heard message) n = ⊥
IsGivenBy Timeout n = ⊥

-- one of the answers gives this number
abbrev pub IsGiven : List (OutEvent (List ℕ)) → ℕ → Type 0
IsGiven [] n = ⊥
IsGiven (event ∷ events) n = IsGivenBy event n ⊎ IsGiven events n

-- the core sends its flight anew after this event, from the first number on
abbrev pub sets_back : OutEvent (List ℕ) → Bool
sets_back (WindowIs first next) = nat_le first next
sets_back Timeout = true
sets_back _ = false

-- among the events the core sent this number, on the answer that fetched it, and no later one set the core back
pub record IsSent (s : Sender) (events : List (OutEvent (List ℕ))) (n : ℕ) : Type 0 where
  pub earlier : List (OutEvent (List ℕ))
  pub later : List (OutEvent (List ℕ))
  pub limit : ℕ
  pub payload : List ℕ
  pub parts : events ≡ earlier ++ Fetched n limit payload ∷ later
  pub sent : (sending_step (sender_after s earlier) (Fetched n limit payload)).1
      ≡ Some (Send (Data s.own s.hop n limit payload))
  pub since : list_any sets_back later ≡ false

-- the action that a core of these stations requests on an event after others
abbrev pub out_action_after : StationId → StationId → ℕ → List (OutEvent (List ℕ)) → OutEvent (List ℕ)
    → Option (OutAction (List ℕ))
out_action_after own hop window before event = (sending_step (sender_after (sender own hop window) before) event).1
