-- Invariants of a sending core over its events, and the causes of its actions.
use Rattle.std.proofs.Common.{◌≡◌, ℕ, ◌+◌, ◌-◌, ◌^◌, ◌≤◌, ◌<◌, Bool, true, false, not, ◌&&◌, ◌||◌, ◌==◌, nat_lt, nat_le, max, if◌then◌else◌, List, [], ◌∷◌, ◌++◌, ◌⊎◌, inl, inr, Option, Some, None, is_some, refl, sym, ap, subst, ◌∙◌, arith}
use Rattle.std.specs.List.{list_any}
use Rattle.std.specs.Option.{option_map, option_map_or}
use Rattle.std.proofs.lemmas.Bool.{and_parts, cases_lt, eqb-true, leb-true, ltb-true}
use Rattle.rly_hop.specs.declared.message.StationId.{StationId}
use Rattle.rly_hop.specs.declared.message.Message.{Message}
use Rattle.rly_hop.specs.declared.message.Message.TheVariants as message
use Rattle.rly_hop.specs.declared.sending.event.OutEvent.{OutEvent}
use Rattle.rly_hop.specs.declared.sending.event.OutEvent.TheVariants.{Turn, WindowIs, Picked, Nothing, Fetched, Released, Unchanged, Refused, Other, Heard, Timeout}
use Rattle.rly_hop.specs.declared.sending.event.OutAction.{OutAction}
use Rattle.rly_hop.specs.declared.sending.event.OutAction.TheVariants.{AskWindow, Release, Fetch, Pick, Send}
use Rattle.rly_hop.specs.Rows.{first_row}
use Rattle.rly_hop.specs.Sender.{IsInOrder, Sender}
use Rattle.rly_hop.specs.Sending.{SendingResult, after_custody, is_unsure, after_release, repeat_action, sender, sending_step}
use Rattle.rly_hop.specs.SendingRuns.{IsGiven, IsGivenBy, IsHeardInFlight, IsInFlight, IsSent, sender_after, sets_back}
use Rattle.rly_hop.proofs.ReceivingLaws.{station-is}

-- a fact of either branch
either : {A : Type 0} (b : Bool) (x y : A) (P : A → Type 0) → (b ≡ true → P x) → (b ≡ false → P y) → P (if b then x else y)
either true x y P p q = p refl
either false x y P p q = q refl

-- the states that the rows leave
abbrev windowed : Sender → ℕ → ℕ → Sender
windowed s first next = record s { ready = true; first = first; next = next; cursor = first; acked = None }

abbrev can_pick : Sender → ℕ → Bool
can_pick s number = s.ready && (number == s.next) && nat_lt number (2 ^ 64 - 1)

abbrev can_send : Sender → ℕ → Bool
can_send s number = s.ready && (number == s.cursor) && nat_lt s.cursor s.next

-- the action that sends a datagram
abbrev data_action : Sender → (number limit : ℕ) → List ℕ → OutAction (List ℕ)
data_action s number limit payload = Send (message.Data s.own s.hop number limit payload)

abbrev fetched : Sender → (number limit : ℕ) → List ℕ → SendingResult
fetched s number limit payload = (record s { cursor = number + 1 }, Some (data_action s number limit payload))

abbrev can_acknowledge : Sender → StationId → StationId → ℕ → Bool
can_acknowledge s from to last = (from.0 == s.hop.0) && (to.0 == s.own.0) && s.ready && nat_le s.first last && nat_lt last s.next

-- the facts of the tests
record CanSend (s : Sender) (number : ℕ) : Type 0 where
  ready : s.ready ≡ true
  at : number ≡ s.cursor
  below : s.cursor < s.next

CanSend-from : (s : Sender) (number : ℕ) → can_send s number ≡ true → CanSend s number
CanSend-from s number e =
    let both = and_parts (s.ready && (number == s.cursor)) (nat_lt s.cursor s.next) e in
    let front = and_parts s.ready (number == s.cursor) both.0 in
    record { ready = front.0; at = eqb-true number s.cursor front.1; below = ltb-true s.cursor s.next both.1 }

picked-is : (s : Sender) (number : ℕ) → can_pick s number ≡ true → number ≡ s.next
picked-is s number e =
    let both = and_parts (s.ready && (number == s.next)) (nat_lt number (2 ^ 64 - 1)) e in
    eqb-true number s.next (and_parts s.ready (number == s.next) both.0).1

record CanAcknowledge (s : Sender) (from to : StationId) (last : ℕ) : Type 0 where
  from_hop : from ≡ s.hop
  to_own : to ≡ s.own
  in_flight : IsInFlight s last

CanAcknowledge-from : (s : Sender) (from to : StationId) (last : ℕ) → can_acknowledge s from to last ≡ true → CanAcknowledge s from to last
CanAcknowledge-from s from to last e =
    let a = and_parts ((((from.0 == s.hop.0) && (to.0 == s.own.0)) && s.ready) && nat_le s.first last) (nat_lt last s.next) e in
    let b = and_parts (((from.0 == s.hop.0) && (to.0 == s.own.0)) && s.ready) (nat_le s.first last) a.0 in
    let c = and_parts ((from.0 == s.hop.0) && (to.0 == s.own.0)) s.ready b.0 in
    let d = and_parts (from.0 == s.hop.0) (to.0 == s.own.0) c.0 in
    record {
      from_hop = station-is from s.hop d.0;
      to_own = station-is to s.own d.1;
      in_flight = record { ready = c.1; begun = leb-true s.first last b.1; ended = ltb-true last s.next a.1 };
    }

-- the greater of the acknowledged numbers
greatest-is : (acked : Option ℕ) (last n : ℕ) → option_map_or (λ a. max a last) acked last ≡ n → (acked ≡ Some n) ⊎ (n ≡ last)
greatest-is None last n e = inr (sym e)
greatest-is (Some a) last n e =
    elim (cases_lt a last) [
      | inl lt ↦ inr (omega arith)
      | inr le ↦ let same : a ≡ n = omega arith in inl (ap (λ (x : ℕ). let o : Option ℕ = Some x in o) same)
    ]

-- ---- the stations stay

moved-stations : (s : Sender) (p : Option ℕ) → ((after_release s p).own ≡ s.own) × ((after_release s p).hop ≡ s.hop)
moved-stations s None = (refl, refl)
moved-stations s (Some a) = (refl, refl)

pub sent-stations : (s : Sender) (event : OutEvent (List ℕ)) → ((sending_step s event).0.own ≡ s.own) × ((sending_step s event).0.hop ≡ s.hop)
sent-stations s (Turn is_open) = (refl, refl)
sent-stations s (WindowIs first next) =
    either (nat_le first next) (windowed s first next) s (λ x. (x.own ≡ s.own) × (x.hop ≡ s.hop)) (λ _. (refl, refl)) (λ _. (refl, refl))
sent-stations s (Picked number) =
    either (can_pick s number) (record s { next = number + 1 }) s (λ x. (x.own ≡ s.own) × (x.hop ≡ s.hop)) (λ _. (refl, refl)) (λ _. (refl, refl))
sent-stations s (Fetched number limit payload) =
    either (can_send s number) (fetched s number limit payload) (s, None) (λ x. (x.0.own ≡ s.own) × (x.0.hop ≡ s.hop)) (λ _. (refl, refl)) (λ _. (refl, refl))
sent-stations s Released = moved-stations s s.acked
sent-stations s Unchanged = moved-stations s s.acked
sent-stations s (Heard (message.Custody from to last)) =
    either (can_acknowledge s from to last) (record s { acked = Some (option_map_or (λ a. max a last) s.acked last) }) s (λ x. (x.own ≡ s.own) × (x.hop ≡ s.hop)) (λ _. (refl, refl)) (λ _. (refl, refl))
sent-stations s (Heard (message.Data from to number limit payload)) = (refl, refl)
sent-stations s (Heard (message.Refused from to number refusal)) = (refl, refl)
sent-stations s (Heard (message.Heard from to last bits)) = (refl, refl)
sent-stations s Timeout = (refl, refl)
sent-stations s (Refused refusal) =
    either (is_unsure refusal) (record s { ready = false }) s (λ x. (x.own ≡ s.own) × (x.hop ≡ s.hop)) (λ _. (refl, refl)) (λ _. (refl, refl))
sent-stations s Nothing = (refl, refl)
sent-stations s Other = (refl, refl)

pub sender_after-stations : (s : Sender) (events : List (OutEvent (List ℕ))) → ((sender_after s events).own ≡ s.own) × ((sender_after s events).hop ≡ s.hop)
sender_after-stations s [] = (refl, refl)
sender_after-stations s (event ∷ events) =
    let now = sent-stations s event in
    let later = sender_after-stations (sending_step s event).0 events in
    (later.0 ∙ now.0, later.1 ∙ now.1)

-- ---- the order of first, cursor and next

nothing_acked : (first next n : ℕ) → (let o : Option ℕ = None in o) ≡ Some n → (first ≤ n) × (n < next)
nothing_acked first next n e = absurd cc

moved-in_order : (s : Sender) (p : Option ℕ) → s.acked ≡ p → IsInOrder s → IsInOrder (after_release s p)
moved-in_order s None e h = h
moved-in_order s (Some a) e h =
    let within = h.acked a e in
    record { begun = omega arith; ended = omega (arith, h.ended, within.1); acked = nothing_acked (a + 1) s.next }

acknowledged-in_order : (s : Sender) (from to : StationId) (last : ℕ) → IsInOrder s → IsInOrder (after_custody s from to last)
acknowledged-in_order s from to last h =
    either (can_acknowledge s from to last) (record s { acked = Some (option_map_or (λ a. max a last) s.acked last) }) s IsInOrder
    (λ test.
    let can = CanAcknowledge-from s from to last test in
    record {
      begun = h.begun;
      ended = h.ended;
      acked = λ n e.
          let value : option_map_or (λ a. max a last) s.acked last ≡ n = cc in
          elim (greatest-is s.acked last n value) [
            | inl before ↦ h.acked n before
            | inr now ↦ subst (λ (x : ℕ). (s.first ≤ x) × (x < s.next)) (sym now) (can.in_flight.begun, can.in_flight.ended)
          ];
    })
    (λ _. h)

pub sent-in_order : (s : Sender) (event : OutEvent (List ℕ)) → IsInOrder s → IsInOrder (sending_step s event).0
sent-in_order s (Turn is_open) h = h
sent-in_order s (WindowIs first next) h =
    either (nat_le first next) (windowed s first next) s IsInOrder
    (λ test. let le = leb-true first next test in record { begun = omega arith; ended = omega (arith, le); acked = nothing_acked first next })
    (λ _. h)
sent-in_order s (Picked number) h =
    either (can_pick s number) (record s { next = number + 1 }) s IsInOrder
    (λ test.
    let is = picked-is s number test in
    record { begun = h.begun; ended = omega (arith, h.ended, is); acked = λ n e. let within = h.acked n e in (within.0, omega (arith, within.1, is)) })
    (λ _. h)
sent-in_order s (Fetched number limit payload) h =
    either (can_send s number) (fetched s number limit payload) (s, None) (λ x. IsInOrder x.0)
    (λ test.
    let can = CanSend-from s number test in
    record { begun = omega (arith, h.begun, can.at); ended = omega (arith, can.at, can.below); acked = h.acked })
    (λ _. h)
sent-in_order s Released h = moved-in_order s s.acked refl h
sent-in_order s Unchanged h = moved-in_order s s.acked refl h
sent-in_order s (Heard (message.Custody from to last)) h = acknowledged-in_order s from to last h
sent-in_order s (Heard (message.Data from to number limit payload)) h = h
sent-in_order s (Heard (message.Refused from to number refusal)) h = h
sent-in_order s (Heard (message.Heard from to last bits)) h = h
sent-in_order s Timeout h = record { begun = omega arith; ended = omega (arith, h.begun, h.ended); acked = h.acked }
sent-in_order s (Refused refusal) h =
    either (is_unsure refusal) (record s { ready = false }) s IsInOrder (λ _. record { begun = h.begun; ended = h.ended; acked = h.acked }) (λ _. h)
sent-in_order s Nothing h = h
sent-in_order s Other h = h

pub sender_after-in_order : (s : Sender) (events : List (OutEvent (List ℕ))) → IsInOrder s → IsInOrder (sender_after s events)
sender_after-in_order s [] h = h
sender_after-in_order s (event ∷ events) h = sender_after-in_order (sending_step s event).0 events (sent-in_order s event h)

pub sender-in_order : (own hop : StationId) (window : ℕ) → IsInOrder (sender own hop window)
sender-in_order own hop window = record { begun = omega arith; ended = omega arith; acked = nothing_acked 1 1 }

-- ---- each number in the flight was given

moved-flight : (s : Sender) (p : Option ℕ) (n : ℕ) → s.acked ≡ p → IsInOrder s → IsInFlight (after_release s p) n → IsInFlight s n
moved-flight s None n e h flight = flight
moved-flight s (Some a) n e h flight =
    let within = h.acked a e in
    record { ready = flight.ready; begun = omega (arith, within.0, flight.begun); ended = flight.ended }

-- the number was in the flight before, or the event gives it
abbrev pub Grown : Sender → OutEvent (List ℕ) → ℕ → Sender → Type 0
Grown s event n x = IsInFlight x n → IsInFlight s n ⊎ IsGivenBy event n

pub sent-flight : (s : Sender) (event : OutEvent (List ℕ)) (n : ℕ) → IsInOrder s → Grown s event n (sending_step s event).0
sent-flight s (Turn is_open) n h flight = inl flight
sent-flight s (WindowIs first next) n h flight =
    either (nat_le first next) (windowed s first next) s (Grown s (WindowIs first next) n) (λ _ found. inr (found.begun, found.ended)) (λ _ found. inl found) flight
sent-flight s (Picked number) n h flight =
    either (can_pick s number) (record s { next = number + 1 }) s (Grown s (Picked number) n)
    (λ test found.
    let is = picked-is s number test in
    elim (cases_lt n number) [
      | inl lt ↦ inl (record { ready = found.ready; begun = found.begun; ended = omega (arith, lt, is) })
      | inr le ↦ inr (omega (arith, le, found.ended))
    ])
    (λ _ found. inl found) flight
sent-flight s (Fetched number limit payload) n h flight =
    either (can_send s number) (fetched s number limit payload) (s, None) (λ x. Grown s (Fetched number limit payload) n x.0)
    (λ _ found. inl (record { ready = found.ready; begun = found.begun; ended = found.ended })) (λ _ found. inl found) flight
sent-flight s Released n h flight = inl (moved-flight s s.acked n refl h flight)
sent-flight s Unchanged n h flight = inl (moved-flight s s.acked n refl h flight)
sent-flight s (Heard (message.Custody from to last)) n h flight =
    either (can_acknowledge s from to last) (record s { acked = Some (option_map_or (λ a. max a last) s.acked last) }) s (Grown s (Heard (message.Custody from to last)) n)
    (λ _ found. inl (record { ready = found.ready; begun = found.begun; ended = found.ended })) (λ _ found. inl found) flight
sent-flight s (Heard (message.Data from to number limit payload)) n h flight = inl flight
sent-flight s (Heard (message.Refused from to number refusal)) n h flight = inl flight
sent-flight s (Heard (message.Heard from to last bits)) n h flight = inl flight
sent-flight s Timeout n h flight = inl (record { ready = flight.ready; begun = flight.begun; ended = flight.ended })
sent-flight s (Refused refusal) n h flight =
    either (is_unsure refusal) (record s { ready = false }) s (Grown s (Refused refusal) n)
    (λ _ found. let never : false ≡ true = found.ready in absurd cc) (λ _ found. inl found) flight
sent-flight s Nothing n h flight = inl flight
sent-flight s Other n h flight = inl flight

pub flight-given : (s : Sender) (events : List (OutEvent (List ℕ))) (n : ℕ) → IsInOrder s → IsInFlight (sender_after s events) n → IsInFlight s n ⊎ IsGiven events n
flight-given s [] n h flight = inl flight
flight-given s (event ∷ events) n h flight =
    elim (flight-given (sending_step s event).0 events n (sent-in_order s event h) flight) [
      | inl now ↦ elim (sent-flight s event n h now) [ inl before ↦ inl before | inr given ↦ inr (inl given) ]
      | inr later ↦ inr (inr later)
    ]

-- a new core knows of no number
pub flight-first : (own hop : StationId) (window n : ℕ) → IsInFlight (sender own hop window) n → ⊥
flight-first own hop window n flight = let never : false ≡ true = flight.ready in cc

-- ---- an acknowledged number was received in the flight

-- it was acknowledged before, or this event is its acknowledgement in the flight
abbrev pub Acked : Sender → OutEvent (List ℕ) → ℕ → Sender → Type 0
Acked s event n x = x.acked ≡ Some n → (s.acked ≡ Some n) ⊎ ((event ≡ Heard (message.Custody s.hop s.own n)) × IsInFlight s n)

moved-acked : (s : Sender) (p : Option ℕ) (event : OutEvent (List ℕ)) (n : ℕ) → Acked s event n (after_release s p)
moved-acked s None event n e = inl e
moved-acked s (Some a) event n e = absurd cc

pub sent-acked : (s : Sender) (event : OutEvent (List ℕ)) (n : ℕ) → Acked s event n (sending_step s event).0
sent-acked s (Turn is_open) n e = inl e
sent-acked s (WindowIs first next) n e =
    either (nat_le first next) (windowed s first next) s (Acked s (WindowIs first next) n) (λ _ found. absurd cc) (λ _ found. inl found) e
sent-acked s (Picked number) n e =
    either (can_pick s number) (record s { next = number + 1 }) s (Acked s (Picked number) n) (λ _ found. inl found) (λ _ found. inl found) e
sent-acked s (Fetched number limit payload) n e =
    either (can_send s number) (fetched s number limit payload) (s, None) (λ x. Acked s (Fetched number limit payload) n x.0) (λ _ found. inl found) (λ _ found. inl found) e
sent-acked s Released n e = moved-acked s s.acked Released n e
sent-acked s Unchanged n e = moved-acked s s.acked Unchanged n e
sent-acked s (Heard (message.Custody from to last)) n e =
    either (can_acknowledge s from to last) (record s { acked = Some (option_map_or (λ a. max a last) s.acked last) }) s (Acked s (Heard (message.Custody from to last)) n)
    (λ test found.
    let can = CanAcknowledge-from s from to last test in
    let value : option_map_or (λ a. max a last) s.acked last ≡ n = cc in
    elim (greatest-is s.acked last n value) [
      | inl before ↦ inl before
      | inr now ↦
          let is : n ≡ last = now in
          let hop : from ≡ s.hop = can.from_hop in
          let own : to ≡ s.own = can.to_own in
          inr (cc, subst (λ (x : ℕ). IsInFlight s x) (sym is) can.in_flight)
    ])
    (λ _ found. inl found) e
sent-acked s (Heard (message.Data from to number limit payload)) n e = inl e
sent-acked s (Heard (message.Refused from to number refusal)) n e = inl e
sent-acked s (Heard (message.Heard from to last bits)) n e = inl e
sent-acked s Timeout n e = inl e
sent-acked s (Refused refusal) n e =
    either (is_unsure refusal) (record s { ready = false }) s (Acked s (Refused refusal) n) (λ _ found. inl found) (λ _ found. inl found) e
sent-acked s Nothing n e = inl e
sent-acked s Other n e = inl e

pub acked-heard : (s : Sender) (events : List (OutEvent (List ℕ))) (n : ℕ) → (sender_after s events).acked ≡ Some n → (s.acked ≡ Some n) ⊎ IsHeardInFlight s events n
acked-heard s [] n e = inl e
acked-heard s (event ∷ events) n e =
    elim (acked-heard (sending_step s event).0 events n e) [
      | inl now ↦ elim (sent-acked s event n now) [
        | inl before ↦ inl before
        | inr here ↦ inr (record { earlier = []; later = events; parts = ap (λ (x : OutEvent (List ℕ)). x ∷ events) here.0; in_flight = here.1 })
      ]
      | inr found ↦
          let stations = sent-stations s event in
          let hop : (sending_step s event).0.hop ≡ s.hop = stations.1 in
          let own : (sending_step s event).0.own ≡ s.own = stations.0 in
          let parts : events ≡ found.earlier ++ Heard (message.Custody s.hop s.own n) ∷ found.later =
          subst (λ (x : StationId). events ≡ found.earlier ++ Heard (message.Custody s.hop x n) ∷ found.later) own
          (subst (λ (x : StationId). events ≡ found.earlier ++ Heard (message.Custody x (sending_step s event).0.own n) ∷ found.later) hop found.parts) in
          inr (record { earlier = event ∷ found.earlier; later = found.later; parts = ap (λ (x : List (OutEvent (List ℕ))). event ∷ x) parts; in_flight = found.in_flight })
    ]

-- ---- the actions of a turn

-- the rows of a turn, over plain tests
abbrev rows : Bool → Option ℕ → Bool → Bool → Bool → ℕ → Option (OutAction (List ℕ))
rows ready acked is_open below room cursor = first_row (
    (not ready, Some AskWindow) ∷ (is_some acked, option_map Release acked) ∷ (not is_open, None) ∷ (below, Some (Fetch cursor)) ∷ (room, Some Pick) ∷ []) None

rows-fetch : (ready : Bool) (acked : Option ℕ) (is_open below room : Bool) (cursor n : ℕ) → rows ready acked is_open below room cursor ≡ Some (Fetch n)
    → (ready ≡ true) × (below ≡ true) × (cursor ≡ n)
rows-fetch false acked is_open below room cursor n e = absurd cc
rows-fetch true (Some a) is_open below room cursor n e = absurd cc
rows-fetch true None false below room cursor n e = absurd cc
rows-fetch true None true true room cursor n e = (refl, refl, cc)
rows-fetch true None true false true cursor n e = absurd cc
rows-fetch true None true false false cursor n e = absurd cc

rows-release : (ready : Bool) (acked : Option ℕ) (is_open below room : Bool) (cursor n : ℕ) → rows ready acked is_open below room cursor ≡ Some (Release n)
    → (ready ≡ true) × (acked ≡ Some n)
rows-release false acked is_open below room cursor n e = absurd cc
rows-release true (Some a) is_open below room cursor n e = (refl, cc)
rows-release true None false below room cursor n e = absurd cc
rows-release true None true true room cursor n e = absurd cc
rows-release true None true false true cursor n e = absurd cc
rows-release true None true false false cursor n e = absurd cc

rows-send : (ready : Bool) (acked : Option ℕ) (is_open below room : Bool) (cursor : ℕ) (m : Message (List ℕ)) → rows ready acked is_open below room cursor ≡ Some (Send m) → ⊥
rows-send false acked is_open below room cursor m e = cc
rows-send true (Some a) is_open below room cursor m e = cc
rows-send true None false below room cursor m e = cc
rows-send true None true true room cursor m e = cc
rows-send true None true false true cursor m e = cc
rows-send true None true false false cursor m e = cc

-- the message sent on a fetched payload
sending : (b : Bool) (s : Sender) (number limit : ℕ) (payload : List ℕ) (action : OutAction (List ℕ))
    → (let x : SendingResult = if b then fetched s number limit payload else (s, None) in x).1 ≡ Some action
    → (b ≡ true) × (Send (message.Data s.own s.hop number limit payload) ≡ action)
sending true s number limit payload action e = (refl, cc)
sending false s number limit payload action e = absurd cc

-- an action, with its payload's type
abbrev named : OutAction (List ℕ) → OutAction (List ℕ)
named action = action

send_fetch : {m : Message (List ℕ)} {n : ℕ} → Send m ≡ Fetch n → ⊥
send_fetch {m} {n} e = let same : named (Send m) ≡ named (Fetch n) = ap named e in cc

send_release : {m : Message (List ℕ)} {n : ℕ} → Send m ≡ Release n → ⊥
send_release {m} {n} e = let same : named (Send m) ≡ named (Release n) = ap named e in cc

data-is : (a b from to : StationId) (number n found limit : ℕ) (bytes payload : List ℕ) → named (Send (message.Data a b number found bytes)) ≡ Send (message.Data from to n limit payload)
    → (a ≡ from) × (b ≡ to) × (number ≡ n) × (found ≡ limit) × (bytes ≡ payload)
data-is a b from to number n found limit bytes payload e = (cc, cc, cc, cc, cc)

pub sent-fetch : (s : Sender) (event : OutEvent (List ℕ)) (n : ℕ) → IsInOrder s → (sending_step s event).1 ≡ Some (Fetch n) → IsInFlight s n
sent-fetch s (Turn is_open) n h e =
    let found = rows-fetch s.ready s.acked is_open (nat_lt s.cursor s.next) ((s.cursor == s.next) && nat_lt (s.next - s.first) s.window) s.cursor n e in
    let below = ltb-true s.cursor s.next found.1 in
    subst (λ (x : ℕ). IsInFlight s x) found.2 (record { ready = found.0; begun = h.begun; ended = below })
sent-fetch s (Fetched number limit payload) n h e =
    let found = sending (can_send s number) s number limit payload (Fetch n) e in absurd (send_fetch found.1)
sent-fetch s (WindowIs first next) n h e = absurd cc
sent-fetch s (Picked number) n h e = absurd cc
sent-fetch s Released n h e = absurd cc
sent-fetch s Unchanged n h e = absurd cc
sent-fetch s (Heard (message.Custody from to last)) n h e = absurd cc
sent-fetch s (Heard (message.Data from to number limit payload)) n h e = absurd cc
sent-fetch s (Heard (message.Refused from to number refusal)) n h e = absurd cc
sent-fetch s (Heard (message.Heard from to last bits)) n h e = absurd cc
sent-fetch s Timeout n h e = absurd cc
sent-fetch s (Refused refusal) n h e = absurd cc
sent-fetch s Nothing n h e = absurd cc
sent-fetch s Other n h e = absurd cc

pub sent-release : (s : Sender) (event : OutEvent (List ℕ)) (n : ℕ) → IsInOrder s → (sending_step s event).1 ≡ Some (Release n) → (s.acked ≡ Some n) × IsInFlight s n
sent-release s (Turn is_open) n h e =
    let found = rows-release s.ready s.acked is_open (nat_lt s.cursor s.next) ((s.cursor == s.next) && nat_lt (s.next - s.first) s.window) s.cursor n e in
    let within = h.acked n found.1 in
    (found.1, record { ready = found.0; begun = within.0; ended = within.1 })
sent-release s (Fetched number limit payload) n h e =
    let found = sending (can_send s number) s number limit payload (Release n) e in absurd (send_release found.1)
sent-release s (WindowIs first next) n h e = absurd cc
sent-release s (Picked number) n h e = absurd cc
sent-release s Released n h e = absurd cc
sent-release s Unchanged n h e = absurd cc
sent-release s (Heard (message.Custody from to last)) n h e = absurd cc
sent-release s (Heard (message.Data from to number limit payload)) n h e = absurd cc
sent-release s (Heard (message.Refused from to number refusal)) n h e = absurd cc
sent-release s (Heard (message.Heard from to last bits)) n h e = absurd cc
sent-release s Timeout n h e = absurd cc
sent-release s (Refused refusal) n h e = absurd cc
sent-release s Nothing n h e = absurd cc
sent-release s Other n h e = absurd cc

pub sent-data : (s : Sender) (event : OutEvent (List ℕ)) (from to : StationId) (n limit : ℕ) (payload : List ℕ) → IsInOrder s
    → (sending_step s event).1 ≡ Some (Send (message.Data from to n limit payload)) → (from ≡ s.own) × (to ≡ s.hop) × (event ≡ Fetched n limit payload) × IsInFlight s n
sent-data s (Turn is_open) from to n limit payload h e =
    absurd (rows-send s.ready s.acked is_open (nat_lt s.cursor s.next) ((s.cursor == s.next) && nat_lt (s.next - s.first) s.window) s.cursor (message.Data from to n limit payload) e)
sent-data s (Fetched number found bytes) from to n limit payload h e =
    let sent = sending (can_send s number) s number found bytes (Send (message.Data from to n limit payload)) e in
    let can = CanSend-from s number sent.0 in
    let fields = data-is s.own s.hop from to number n found limit bytes payload sent.1 in
    let flight : IsInFlight s number = record { ready = can.ready; begun = omega (arith, h.begun, can.at); ended = omega (arith, can.at, can.below) } in
    let same_number : number ≡ n = fields.2 in
    let same_limit : found ≡ limit = fields.3 in
    let same_payload : bytes ≡ payload = fields.4 in
    (sym fields.0, sym fields.1, cc, subst (λ (x : ℕ). IsInFlight s x) same_number flight)
sent-data s (WindowIs first next) from to n limit payload h e = absurd cc
sent-data s (Picked number) from to n limit payload h e = absurd cc
sent-data s Released from to n limit payload h e = absurd cc
sent-data s Unchanged from to n limit payload h e = absurd cc
sent-data s (Heard (message.Custody a b last)) from to n limit payload h e = absurd cc
sent-data s (Heard (message.Data a b number found bytes)) from to n limit payload h e = absurd cc
sent-data s (Heard (message.Refused a b number refusal)) from to n limit payload h e = absurd cc
sent-data s (Heard (message.Heard a b last bits)) from to n limit payload h e = absurd cc
sent-data s Timeout from to n limit payload h e = absurd cc
sent-data s (Refused refusal) from to n limit payload h e = absurd cc
sent-data s Nothing from to n limit payload h e = absurd cc
sent-data s Other from to n limit payload h e = absurd cc

-- ---- from the first event on

pub given-only : (own hop : StationId) (window : ℕ) (events : List (OutEvent (List ℕ))) (n : ℕ) → IsInFlight (sender_after (sender own hop window) events) n → IsGiven events n
given-only own hop window events n flight =
    elim (flight-given (sender own hop window) events n (sender-in_order own hop window) flight) [
      | inl first ↦ absurd (flight-first own hop window n first)
      | inr given ↦ given
    ]

pub heard-only : (own hop : StationId) (window : ℕ) (events : List (OutEvent (List ℕ))) (n : ℕ) → (sender_after (sender own hop window) events).acked ≡ Some n → IsHeardInFlight (sender own hop window) events n
heard-only own hop window events n e =
    elim (acked-heard (sender own hop window) events n e) [
      | inl first ↦ absurd cc
      | inr found ↦ found
    ]

-- ---- a number that is sent again was sent

-- the number is below the cursor: it needn't be sent in its turn any more
pub record IsPassed (s : Sender) (n : ℕ) : Type 0 where
  pub begun : s.first ≤ n
  pub ended : n < s.cursor

-- the event is the answer on which the core sends this number
record IsSentOn (s : Sender) (event : OutEvent (List ℕ)) (n : ℕ) : Type 0 where
  limit : ℕ
  payload : List ℕ
  is : event ≡ Fetched n limit payload
  sent : (sending_step s (Fetched n limit payload)).1 ≡ Some (data_action s n limit payload)

-- the number was passed before and the event doesn't set the core back, or the core sends it on this event
abbrev Passed : Sender → OutEvent (List ℕ) → ℕ → Sender → Type 0
Passed s event n x = IsPassed x n → (IsPassed s n × (sets_back event ≡ false)) ⊎ IsSentOn s event n

moved-passed : (s : Sender) (p : Option ℕ) (n : ℕ) → s.acked ≡ p → IsInOrder s → IsPassed (after_release s p) n → IsPassed s n
moved-passed s None n e h passed = passed
moved-passed s (Some a) n e h passed =
    let within = h.acked a e in
    record { begun = omega (arith, within.0, passed.begun); ended = omega (arith, passed.begun, passed.ended) }

sending-now : (b : Bool) (s : Sender) (number limit : ℕ) (payload : List ℕ) → b ≡ true
    → (let x : SendingResult = if b then fetched s number limit payload else (s, None) in x).1 ≡ Some (data_action s number limit payload)
sending-now true s number limit payload e = refl
sending-now false s number limit payload e = absurd cc

fetched-passed : (s : Sender) (number limit : ℕ) (payload : List ℕ) (n : ℕ) → Passed s (Fetched number limit payload) n (sending_step s (Fetched number limit payload)).0
fetched-passed s number limit payload n passed =
    either (can_send s number) (fetched s number limit payload) (s, None) (λ x. Passed s (Fetched number limit payload) n x.0)
    (λ test found.
    let can = CanSend-from s number test in
    elim (cases_lt n number) [
      | inl lt ↦ inl (record { begun = found.begun; ended = omega (arith, lt, can.at) }, refl)
      | inr le ↦
          let is : number ≡ n = omega (arith, le, found.ended) in
          let here : IsSentOn s (Fetched number limit payload) number = record { limit = limit; payload = payload; is = refl; sent = sending-now (can_send s number) s number limit payload test } in
          inr (subst (λ (x : ℕ). IsSentOn s (Fetched number limit payload) x) is here)
    ])
    (λ _ found. inl (found, refl)) passed

sent-passed : (s : Sender) (event : OutEvent (List ℕ)) (n : ℕ) → IsInOrder s → Passed s event n (sending_step s event).0
sent-passed s (Turn is_open) n h passed = inl (passed, refl)
sent-passed s (WindowIs first next) n h passed =
    either (nat_le first next) (windowed s first next) s (Passed s (WindowIs first next) n)
    (λ _ found. absurd (omega (arith, found.begun, found.ended))) (λ test found. inl (found, test)) passed
sent-passed s (Picked number) n h passed =
    either (can_pick s number) (record s { next = number + 1 }) s (Passed s (Picked number) n)
    (λ _ found. inl (record { begun = found.begun; ended = found.ended }, refl)) (λ _ found. inl (found, refl)) passed
sent-passed s (Fetched number limit payload) n h passed = fetched-passed s number limit payload n passed
sent-passed s Released n h passed = inl (moved-passed s s.acked n refl h passed, refl)
sent-passed s Unchanged n h passed = inl (moved-passed s s.acked n refl h passed, refl)
sent-passed s (Heard (message.Custody from to last)) n h passed =
    either (can_acknowledge s from to last) (record s { acked = Some (option_map_or (λ a. max a last) s.acked last) }) s (Passed s (Heard (message.Custody from to last)) n)
    (λ _ found. inl (record { begun = found.begun; ended = found.ended }, refl)) (λ _ found. inl (found, refl)) passed
sent-passed s (Heard (message.Data from to number limit payload)) n h passed = inl (passed, refl)
sent-passed s (Heard (message.Refused from to number refusal)) n h passed = inl (passed, refl)
sent-passed s (Heard (message.Heard from to last bits)) n h passed = inl (passed, refl)
sent-passed s Timeout n h passed = absurd (omega (arith, passed.begun, passed.ended))
sent-passed s (Refused refusal) n h passed =
    either (is_unsure refusal) (record s { ready = false }) s (Passed s (Refused refusal) n)
    (λ _ found. inl (record { begun = found.begun; ended = found.ended }, refl)) (λ _ found. inl (found, refl)) passed
sent-passed s Nothing n h passed = inl (passed, refl)
sent-passed s Other n h passed = inl (passed, refl)

-- what a core of the same stations sends
data-of : (s t : Sender) (n limit : ℕ) (payload : List ℕ) → t.own ≡ s.own → t.hop ≡ s.hop → data_action t n limit payload ≡ data_action s n limit payload
data-of s t n limit payload own hop = cc

-- neither of the events sets the core back
neither : (a b : Bool) → a ≡ false → b ≡ false → (a || b) ≡ false
neither false b p q = q
neither true b p q = absurd cc

passed-sent : (s : Sender) (events : List (OutEvent (List ℕ))) (n : ℕ) → IsInOrder s → IsPassed (sender_after s events) n
    → (IsPassed s n × (list_any sets_back events ≡ false)) ⊎ IsSent s events n
passed-sent s [] n h passed = inl (passed, refl)
passed-sent s (event ∷ events) n h passed =
    elim (passed-sent (sending_step s event).0 events n (sent-in_order s event h) passed) [
      | inl now ↦ elim (sent-passed s event n h now.0) [
        | inl before ↦ inl (before.0, neither (sets_back event) (list_any sets_back events) before.1 now.1)
        | inr here ↦ inr (record {
          earlier = [];
          later = events;
          limit = here.limit;
          payload = here.payload;
          parts = ap (λ (x : OutEvent (List ℕ)). x ∷ events) here.is;
          sent = here.sent;
          since = now.1;
        })
      ]
      | inr found ↦
          let stations = sent-stations s event in
          let same = data-of s (sending_step s event).0 n found.limit found.payload stations.0 stations.1 in
          inr (record {
            earlier = event ∷ found.earlier;
            later = found.later;
            limit = found.limit;
            payload = found.payload;
            parts = ap (λ (x : List (OutEvent (List ℕ))). event ∷ x) found.parts;
            sent = found.sent ∙ ap (λ (x : OutAction (List ℕ)). let o : Option (OutAction (List ℕ)) = Some x in o) same;
            since = found.since;
          })
    ]

pub passed-only : (own hop : StationId) (window : ℕ) (events : List (OutEvent (List ℕ))) (n : ℕ) → IsPassed (sender_after (sender own hop window) events) n → IsSent (sender own hop window) events n
passed-only own hop window events n passed =
    elim (passed-sent (sender own hop window) events n (sender-in_order own hop window) passed) [
      | inl first ↦ absurd (omega (arith, first.0.begun, first.0.ended))
      | inr sent ↦ sent
    ]

-- what the test of a number that is sent again says
pub record CanRepeat (s : Sender) (n limit : ℕ) (payload : List ℕ) (action : OutAction (List ℕ)) : Type 0 where
  pub ready : s.ready ≡ true
  pub passed : IsPassed s n
  pub is : action ≡ data_action s n limit payload

repeating : (b : Bool) (again action : OutAction (List ℕ)) → (let x : Option (OutAction (List ℕ)) = if b then Some again else None in x) ≡ Some action → (b ≡ true) × (action ≡ again)
repeating true again action e = (refl, cc)
repeating false again action e = absurd cc

pub CanRepeat-from : (s : Sender) (n limit : ℕ) (payload : List ℕ) (action : OutAction (List ℕ)) → repeat_action s n limit payload ≡ Some action → CanRepeat s n limit payload action
CanRepeat-from s n limit payload action e =
    let found = repeating (s.ready && nat_le s.first n && nat_lt n s.cursor) (data_action s n limit payload) action e in
    let both = and_parts (s.ready && nat_le s.first n) (nat_lt n s.cursor) found.0 in
    let front = and_parts s.ready (nat_le s.first n) both.0 in
    record {
      ready = front.0;
      passed = record { begun = leb-true s.first n front.1; ended = ltb-true n s.cursor both.1 };
      is = found.1;
    }

pub repeat-flight : (s : Sender) (n limit : ℕ) (payload : List ℕ) (action : OutAction (List ℕ)) → IsInOrder s → repeat_action s n limit payload ≡ Some action → IsInFlight s n
repeat-flight s n limit payload action h e =
    let can = CanRepeat-from s n limit payload action e in
    record { ready = can.ready; begun = can.passed.begun; ended = omega (arith, can.passed.ended, h.ended) }

pub repeat-is : (own hop : StationId) (window : ℕ) (events : List (OutEvent (List ℕ))) (n limit : ℕ) (payload : List ℕ) (action : OutAction (List ℕ))
    → repeat_action (sender_after (sender own hop window) events) n limit payload ≡ Some action → action ≡ Send (message.Data own hop n limit payload)
repeat-is own hop window events n limit payload action e =
    let stations = sender_after-stations (sender own hop window) events in
    (CanRepeat-from (sender_after (sender own hop window) events) n limit payload action e).is
    ∙ data-of (sender own hop window) (sender_after (sender own hop window) events) n limit payload stations.0 stations.1

pub fetched-again : (s : Sender) (number limit : ℕ) (payload : List ℕ) → number < s.cursor → sending_step s (Fetched number limit payload) ≡ (s, None)
fetched-again s number limit payload below =
    either (can_send s number) (fetched s number limit payload) (s, None) (λ x. x ≡ (s, None))
    (λ test. let can = CanSend-from s number test in absurd (omega (arith, can.at, below))) (λ _. refl)
