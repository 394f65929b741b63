-- A link that is opened while its worker works: when it is tried, how long it waits, and what is logged (docs/COMMANDS.md,
-- "rly serve"). Moments and waits are in microseconds of the monotonic clock.
use Rattle.std.specs.Prelude.{◌≡◌, ℕ, ◌+◌, ◌*◌, ◌^◌, ◌-◌, ◌==◌, min, nat_lt, MatchBool, not, ◌||◌, if◌then◌else◌}
use Rattle.std.specs.Prelude.{List, [], ◌∷◌, ◌++◌, Option, None, Some, Result, Ok, Err}
use Rattle.std.specs.Result.{result_err}
use Rattle.rly_link.specs.LinkHistory.{Hearing, TellsMore, new_hearing}
use Rattle.rly_link.specs.declared.link.LinkFault.{LinkFault}
use Rattle.rly_link.specs.declared.link.Sleep.{Sleep}
use Rattle.rly_link.specs.declared.link.Sleep.TheVariants as sleep
use Rattle.rly_link_udp.specs.declared.opener.OpenerCall.{OpenerCall}
use Rattle.rly_link_udp.specs.declared.opener.OpenerCall.TheVariants.{Read, Told, Tried, Waited}
use Rattle.rly_link_udp.specs.declared.patient_link.PatientLink.{PatientLink}
use Rattle.rly_link_udp.specs.declared.patient_link.PatientState.{PatientState}
use Rattle.rly_link_udp.specs.declared.patient_link.PatientState.TheVariants.{Closed, Open}
use Rattle.rly_link_udp.specs.declared.patient_link.Refusals.{Refusals}
use Rattle.rly_station.specs.Openings.{is_like}
use Rattle.rly_station.specs.declared.address_fault.EndFault.{EndFault}
use Rattle.rly_station.specs.declared.opening.Opening.TheVariants.{Opened, Refused}

-- the wait after a refusal, by the number of those before it: 5 s, 10, 20, 40, and 60 from then on
abbrev pub wait_after : ℕ → ℕ
wait_after count = min (5000000 * 2 ^ count) 60000000

-- a number that stays at the last value of 64 bits
abbrev pub in_bits : ℕ → ℕ
in_bits n = min n (2 ^ 64 - 1)

-- at the start: if it was refused it is tried again at once
abbrev pub first_state : {L : Type 0} → Result L EndFault → PatientState L
first_state (Ok link) = Open link
first_state (Err fault) = Closed (record { count = 0; next = 0; last = fault })

-- the last refusal: none if it is open
abbrev pub refusal_in : {L : Type 0} → PatientState L → Option EndFault
refusal_in (Open link) = None
refusal_in (Closed r) = Some r.last

-- after one more refusal, at a moment
abbrev pub after_refusal : Refusals → (now : ℕ) → EndFault → Refusals
after_refusal r now fault = record {
  count = in_bits (r.count + 1);
  next = in_bits (now + wait_after r.count);
  last = fault;
}

abbrev pub state_after : {L : Type 0} → Refusals → (now : ℕ) → Result L EndFault → PatientState L
state_after r now (Ok link) = Open link
state_after r now (Err fault) = Closed (after_refusal r now fault)

-- what is logged: the first refusal since the start, each that isn't like the one before it, and that it is open
abbrev pub told_of : Refusals → EndFault → List OpenerCall
told_of r fault = if (r.count == 0) || not (is_like fault r.last) then Told (Refused fault (wait_after r.count)) ∷ [] else []

abbrev pub told_after : {L : Type 0} → Refusals → Result L EndFault → List OpenerCall
told_after r (Ok link) = Told Opened ∷ []
told_after r (Err fault) = told_of r fault

-- a link that isn't open was tried at a moment
abbrev pub IsTriedAt : {L O : Type 0} → (O → List OpenerCall) → Refusals → (now : ℕ) → (old new : PatientLink L O) → Type 0
IsTriedAt {L} calls r now old new = (outcome : Result L EndFault) × (new.state ≡ state_after r now outcome)
    × (calls new.opener ≡ calls old.opener ++ Read now ∷ Tried (result_err outcome) ∷ told_after r outcome)

-- the clock said that the moment of the next try hasn't come
abbrev pub IsNotDue : {L O : Type 0} → (O → List OpenerCall) → Refusals → (now : ℕ) → (old new : PatientLink L O) → Type 0
IsNotDue calls r now old new = (new.state ≡ Closed r) × (calls new.opener ≡ calls old.opener ++ Read now ∷ [])

-- a link that isn't open was tried, if the clock's moment is at or after that of its next try; an open one never
abbrev pub HasTriedFrom : {L O : Type 0} → PatientState L → (O → List OpenerCall) → (old new : PatientLink L O) → Type 0
HasTriedFrom (Open link) calls old new = new ≡ old
HasTriedFrom (Closed r) calls old new =
    (now : ℕ) × MatchBool (nat_lt now r.next) (IsNotDue calls r now old new) (IsTriedAt calls r now old new)

abbrev pub HasTried : {L O : Type 0} → (O → List OpenerCall) → (old new : PatientLink L O) → Type 0
HasTried calls old new = HasTriedFrom old.state calls old new

-- the shorter of a wait and the time until the next try
abbrev pub until_try : (next : ℕ) → Sleep → Sleep
until_try next sleep.No = sleep.No
until_try next (sleep.Until moment) = sleep.Until (min moment next)
until_try next sleep.Woken = sleep.Until next

-- the number of failed calls of the link below: none until it is open
abbrev pub failed_in : {L : Type 0} → (L → ℕ) → PatientState L → ℕ
failed_in failed (Open link) = failed link
failed_in failed (Closed r) = 0

abbrev pub patient_failed : {L O : Type 0} → (L → ℕ) → PatientLink L O → ℕ
patient_failed failed l = failed_in failed l.state

-- the link below received, and nothing else was done; one that isn't open waited, and heard nothing
abbrev pub ReceivesFrom : {L O : Type 0} → PatientState L → (O → List OpenerCall) → (L → Option (List Hearing))
    → (L → Option (List (List ℕ))) → Sleep → Result (Option ℕ) LinkFault → (packet : Option (List ℕ))
    → (old new : PatientLink L O) → Type 0
ReceivesFrom {L} (Open link) calls heard sent wait result packet old new = (after : L)
    × (new ≡ record old { state = Open after })
    × TellsMore (heard link) (heard after) (new_hearing wait packet ∷ [])
    × (sent after ≡ sent link)
ReceivesFrom (Closed r) calls heard sent wait result packet old new = (new.state ≡ Closed r) × (result ≡ Ok None)
    × (calls new.opener ≡ calls old.opener ++ Waited (until_try r.next wait) ∷ [])

-- a receive, before which a try was made if it was due
abbrev pub HasReceived : {L O : Type 0} → (O → List OpenerCall) → (L → Option (List Hearing))
    → (L → Option (List (List ℕ))) → Sleep → Result (Option ℕ) LinkFault → (packet : Option (List ℕ))
    → (old new : PatientLink L O) → Type 0
HasReceived {L} {O} calls heard sent wait result packet old new = (between : PatientLink L O)
    × HasTried calls old between
    × ReceivesFrom between.state calls heard sent wait result packet between new

-- the link below sent, and nothing else was done; a packet is lost while it isn't open
abbrev pub SendsFrom : {L O : Type 0} → PatientState L → (L → Option (List Hearing)) → (L → Option (List (List ℕ)))
    → Result Unit LinkFault → (packet : List ℕ) → (old new : PatientLink L O) → Type 0
SendsFrom {L} (Open link) heard sent result packet old new = (after : L)
    × (new ≡ record old { state = Open after })
    × TellsMore (sent link) (sent after) (packet ∷ [])
    × (heard after ≡ heard link)
SendsFrom (Closed r) heard sent result packet old new = (new ≡ old) × (result ≡ Ok tt)

abbrev pub HasSent : {L O : Type 0} → (L → Option (List Hearing)) → (L → Option (List (List ℕ)))
    → Result Unit LinkFault → (packet : List ℕ) → (old new : PatientLink L O) → Type 0
HasSent heard sent result packet old new = SendsFrom old.state heard sent result packet old new
