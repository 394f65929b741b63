-- Invariants of a receiving core over its events, and the causes of its actions.
use Rattle.std.proofs.Common.{◌≡◌, ℕ, zero, suc, ◌+◌, ◌-◌, Bool, true, false, ◌&&◌, ◌==◌, if◌then◌else◌, List, [], ◌∷◌, length, Option, Some, None, is_none, refl, sym, ap, subst, ◌∙◌, ◌⊎◌, inl, inr, arith}
use Rattle.std.specs.List.{AllByRecursion}
use Rattle.std.proofs.lemmas.Bool.{and_parts, and_right, eqb-false, eqb-true}
use Rattle.rly_core.specs.Refusals.{number_of}
use Rattle.rly_core.specs.declared.refusal.Refusal.{Refusal}
use Rattle.rly_core.specs.declared.refusal.Refusal.TheVariants.{Gap}
use Rattle.rly_hop.specs.declared.message.StationId.{StationId}
use Rattle.rly_hop.specs.declared.message.Message.{Message}
use Rattle.rly_hop.specs.declared.message.Message.TheVariants as message
use Rattle.rly_hop.specs.declared.receiving.event.TakeAnswer.{TakeAnswer}
use Rattle.rly_hop.specs.declared.receiving.event.TakeAnswer.TheVariants as answer
use Rattle.rly_hop.specs.declared.receiving.event.InEvent.{InEvent}
use Rattle.rly_hop.specs.declared.receiving.event.InEvent.TheVariants.{Heard, Answered, Lost}
use Rattle.rly_hop.specs.declared.receiving.event.InAction.{InAction}
use Rattle.rly_hop.specs.declared.receiving.event.InAction.TheVariants.{Take, Send}
use Rattle.rly_hop.specs.Receiver.{Receiver}
use Rattle.rly_hop.specs.Receiving.{ReceivingResult, after_answer, is_reported_refusal, receiving_step, receiver, refusal_message, take_reply}
use Rattle.rly_hop.specs.ReceivingRuns.{IsCustodyDue, IsHeard, in_actions, last_take, receiver_after}

-- stations with one number are one
pub station-is : (a b : StationId) → (a.0 == b.0) ≡ true → a ≡ b
station-is a b same = ap (λ (n : ℕ). let s : StationId = record { 0 = n } in s) (eqb-true a.0 b.0 same)

-- an action, with no hint of its payload's type left out
abbrev named : InAction (List ℕ) → InAction (List ℕ)
named action = action

abbrev some : ℕ → Option ℕ
some n = Some n

abbrev asked : TakeAnswer → InEvent (List ℕ)
asked any = Answered any

-- the action on a Data
heard : (b : Bool) (r : Receiver) (number limit : ℕ) (payload : List ℕ) (action : InAction (List ℕ))
    → (let x : ReceivingResult = if b then (record r { pending = Some number }, Some (Take number limit payload)) else (r, None) in x).1 ≡ Some action
    → (b ≡ true) × (Take number limit payload ≡ action)
heard true r number limit payload action e = (refl, cc)
heard false r number limit payload action e = absurd cc

-- a number above 0 that is one more than another
above_zero : (expected n : ℕ) → (expected ≡ 0 → ⊥) → expected - 1 ≡ n → n + 1 ≡ expected
above_zero zero n above e = absurd (above refl)
above_zero (suc k) n above e = omega arith

-- ---- invariants

pub received-stations : (r : Receiver) (event : InEvent (List ℕ)) → ((receiving_step r event).0.own ≡ r.own) × ((receiving_step r event).0.peer ≡ r.peer)
received-stations r (Heard (message.Data from to number limit payload)) =
    elim ((from.0 == r.peer.0) && (to.0 == r.own.0) && is_none r.pending)
    as (λ b. ((let x : ReceivingResult = if b then (record r { pending = Some number }, Some (Take number limit payload)) else (r, None) in x).0.own ≡ r.own)
    × ((let x : ReceivingResult = if b then (record r { pending = Some number }, Some (Take number limit payload)) else (r, None) in x).0.peer ≡ r.peer))
    [ true ↦ (refl, refl) | false ↦ (refl, refl) ]
received-stations r (Heard (message.Custody from to last)) = (refl, refl)
received-stations r (Heard (message.Refused from to number refusal)) = (refl, refl)
received-stations r (Heard (message.Heard from to last bits)) = (refl, refl)
received-stations r (Answered any) =
    elim r.pending as (λ p. ((after_answer r p any).0.own ≡ r.own) × ((after_answer r p any).0.peer ≡ r.peer)) [ None ↦ (refl, refl) | Some k ↦ (refl, refl) ]
received-stations r Lost = (refl, refl)

pub after-stations : (r : Receiver) (events : List (InEvent (List ℕ))) → ((receiver_after r events).own ≡ r.own) × ((receiver_after r events).peer ≡ r.peer)
after-stations r [] = (refl, refl)
after-stations r (event ∷ events) =
    let now = received-stations r event in
    let later = after-stations (receiving_step r event).0 events in
    (later.0 ∙ now.0, later.1 ∙ now.1)

-- ---- the pending number is that of the last Take

-- the pending number is that of the last Take
abbrev pub IsTaken : Receiver → Option ℕ → Type 0
IsTaken r taken = (n : ℕ) → r.pending ≡ Some n → taken ≡ Some n

last_take-step : (taken : Option ℕ) (action : Option (InAction (List ℕ))) (actions : List (Option (InAction (List ℕ))))
    → last_take taken (action ∷ actions) ≡ last_take (last_take taken (action ∷ [])) actions
last_take-step taken (Some (Take number limit payload)) actions = refl
last_take-step taken (Some (Send m)) actions = refl
last_take-step taken None actions = refl

pub IsTaken-step : (r : Receiver) (taken : Option ℕ) (event : InEvent (List ℕ)) → IsTaken r taken → IsTaken (receiving_step r event).0 (last_take taken ((receiving_step r event).1 ∷ []))
IsTaken-step r taken (Heard (message.Data from to number limit payload)) h =
    elim ((from.0 == r.peer.0) && (to.0 == r.own.0) && is_none r.pending)
    as (λ b. let x : ReceivingResult = if b then (record r { pending = Some number }, Some (Take number limit payload)) else (r, None) in IsTaken x.0 (last_take taken (x.1 ∷ [])))
    [ true ↦ (λ n e. e) | false ↦ h ]
IsTaken-step r taken (Heard (message.Custody from to last)) h = h
IsTaken-step r taken (Heard (message.Refused from to number refusal)) h = h
IsTaken-step r taken (Heard (message.Heard from to last bits)) h = h
IsTaken-step r taken (Answered any) h =
    (elim r.pending as (λ p. ((n : ℕ) → p ≡ Some n → taken ≡ Some n) → IsTaken (after_answer r p any).0 (last_take taken ((after_answer r p any).1 ∷ [])))
    [ None ↦ (λ none n e. h n e) | Some k ↦ (λ some n e. absurd cc) ]) h
IsTaken-step r taken Lost h = λ n e. absurd cc

pub IsTaken-after : (r : Receiver) (taken : Option ℕ) (events : List (InEvent (List ℕ))) → IsTaken r taken → IsTaken (receiver_after r events) (last_take taken (in_actions r events))
IsTaken-after r taken [] h = h
IsTaken-after r taken (event ∷ events) h =
    let later = IsTaken-after (receiving_step r event).0 (last_take taken ((receiving_step r event).1 ∷ [])) events (IsTaken-step r taken event h) in
    rw (last_take-step taken (receiving_step r event).1 (in_actions (receiving_step r event).0 events)) later

pub IsTaken-first : (own peer : StationId) → IsTaken (receiver own peer) None
IsTaken-first own peer n e = e

-- ---- custody and refusals follow an answer

-- the action if a test isn't met
otherwise : {A : Type 0} (b : Bool) (x y : A) → (if b then None else Some x) ≡ Some y → (b ≡ false) × (x ≡ y)
otherwise true x y e = absurd cc
otherwise false x y e = (refl, cc)

-- the action if a test is met
told-where : (b : Bool) (x y : InAction (List ℕ)) → (if b then Some x else None) ≡ Some y → x ≡ y
told-where true x y e = cc
told-where false x y e = absurd cc

-- a refusal is by a gap, or else its number is sent to the peer station, if anything is
gap-or-other : (r : Receiver) (k : ℕ) (refusal : Refusal)
    → ((expected : ℕ) × (refusal ≡ Gap expected)) ⊎ (take_reply r k (answer.Refused refusal) ≡ (if is_reported_refusal refusal then refusal_message r k refusal else None))
gap-or-other r k (Gap expected) = inl (expected, refl)
gap-or-other r k refusal = inr refl

-- the action of a refusal that is no gap is the message with it
refusal-named : (r : Receiver) (k : ℕ) (refusal : Refusal) (action : InAction (List ℕ))
    → take_reply r k (answer.Refused refusal) ≡ (if is_reported_refusal refusal then refusal_message r k refusal else None)
    → take_reply r k (answer.Refused refusal) ≡ Some action → named (Send (message.Refused r.own r.peer k (number_of refusal))) ≡ named action
refusal-named r k refusal action is e = told-where (is_reported_refusal refusal) (Send (message.Refused r.own r.peer k (number_of refusal))) action (sym is ∙ e)

gap-custody : (r : Receiver) (k expected : ℕ) (from to : StationId) (n : ℕ) → take_reply r k (answer.Refused (Gap expected)) ≡ Some (Send (message.Custody from to n))
    → (from ≡ r.own) × (to ≡ r.peer) × IsCustodyDue (Some k) (Answered (answer.Refused (Gap expected))) n
gap-custody r k expected from to n e =
    let gap = otherwise (expected == 0) (Send (message.Custody r.own r.peer (expected - 1))) (Send (message.Custody from to n)) e in
    let above = eqb-false expected 0 gap.0 in
    let same : named (Send (message.Custody r.own r.peer (expected - 1))) ≡ named (Send (message.Custody from to n)) = ap named gap.1 in
    let last : expected - 1 ≡ n = cc in
    (cc, cc, above_zero expected n above last)

refused-custody : (r : Receiver) (k : ℕ) (refusal : Refusal) (from to : StationId) (n : ℕ) → take_reply r k (answer.Refused refusal) ≡ Some (Send (message.Custody from to n))
    → (from ≡ r.own) × (to ≡ r.peer) × IsCustodyDue (Some k) (Answered (answer.Refused refusal)) n
refused-custody r k refusal from to n e =
    elim (gap-or-other r k refusal) [
      | inl gap ↦ subst (λ (x : Refusal). take_reply r k (answer.Refused x) ≡ Some (Send (message.Custody from to n)) → (from ≡ r.own) × (to ≡ r.peer) × IsCustodyDue (Some k) (Answered (answer.Refused x)) n)
          (sym gap.1) (gap-custody r k gap.0 from to n) e
      | inr other ↦
          let same : named (Send (message.Refused r.own r.peer k (number_of refusal))) ≡ named (Send (message.Custody from to n)) = refusal-named r k refusal (Send (message.Custody from to n)) other e in
          absurd cc
    ]

told-custody : (r : Receiver) (k : ℕ) (any : TakeAnswer) (from to : StationId) (n : ℕ) → take_reply r k any ≡ Some (Send (message.Custody from to n))
    → (from ≡ r.own) × (to ≡ r.peer) × IsCustodyDue (Some k) (Answered any) n
told-custody r k answer.Taken from to n e = (cc, cc, cc)
told-custody r k (answer.Already last) from to n e = (cc, cc, cc)
told-custody r k (answer.Refused refusal) from to n e = refused-custody r k refusal from to n e
told-custody r k answer.Other from to n e = absurd cc

answered-custody : (r : Receiver) (p taken : Option ℕ) (any : TakeAnswer) (from to : StationId) (n : ℕ) → ((k : ℕ) → p ≡ Some k → taken ≡ Some k)
    → (after_answer r p any).1 ≡ Some (Send (message.Custody from to n)) → (from ≡ r.own) × (to ≡ r.peer) × IsCustodyDue taken (Answered any) n
answered-custody r None taken any from to n h e = absurd cc
answered-custody r (Some k) taken any from to n h e =
    subst (λ (x : Option ℕ). (from ≡ r.own) × (to ≡ r.peer) × IsCustodyDue x (Answered any) n) (sym (h k refl)) (told-custody r k any from to n e)

pub received-custody : (r : Receiver) (taken : Option ℕ) (event : InEvent (List ℕ)) (from to : StationId) (n : ℕ) → IsTaken r taken
    → (receiving_step r event).1 ≡ Some (Send (message.Custody from to n)) → (from ≡ r.own) × (to ≡ r.peer) × IsCustodyDue taken event n
received-custody r taken (Heard (message.Data a b number limit payload)) from to n h e =
    let take = heard (((a.0 == r.peer.0) && (b.0 == r.own.0)) && is_none r.pending) r number limit payload (Send (message.Custody from to n)) e in
    let same : named (Take number limit payload) ≡ named (Send (message.Custody from to n)) = ap named take.1 in
    absurd cc
received-custody r taken (Heard (message.Custody a b last)) from to n h e = absurd cc
received-custody r taken (Heard (message.Refused a b number refusal)) from to n h e = absurd cc
received-custody r taken (Heard (message.Heard a b last bits)) from to n h e = absurd cc
received-custody r taken (Answered any) from to n h e = answered-custody r r.pending taken any from to n h e
received-custody r taken Lost from to n h e = absurd cc

-- the refusal in a message
abbrev pub IsRefusal : TakeAnswer → ℕ → Type 0
IsRefusal any code = (refusal : Refusal) × (any ≡ answer.Refused refusal) × (code ≡ number_of refusal)

gap-refused : (r : Receiver) (k expected : ℕ) (from to : StationId) (n code : ℕ) → take_reply r k (answer.Refused (Gap expected)) ≡ Some (Send (message.Refused from to n code)) → ⊥
gap-refused r k expected from to n code e =
    let gap = otherwise (expected == 0) (Send (message.Custody r.own r.peer (expected - 1))) (Send (message.Refused from to n code)) e in
    let same : named (Send (message.Custody r.own r.peer (expected - 1))) ≡ named (Send (message.Refused from to n code)) = ap named gap.1 in
    cc

refused-refused : (r : Receiver) (k : ℕ) (refusal : Refusal) (from to : StationId) (n code : ℕ) → take_reply r k (answer.Refused refusal) ≡ Some (Send (message.Refused from to n code))
    → (from ≡ r.own) × (to ≡ r.peer) × (k ≡ n) × IsRefusal (answer.Refused refusal) code
refused-refused r k refusal from to n code e =
    elim (gap-or-other r k refusal) [
      | inl gap ↦ absurd (subst (λ (x : Refusal). take_reply r k (answer.Refused x) ≡ Some (Send (message.Refused from to n code)) → ⊥) (sym gap.1) (gap-refused r k gap.0 from to n code) e)
      | inr other ↦
          let same : named (Send (message.Refused r.own r.peer k (number_of refusal))) ≡ named (Send (message.Refused from to n code)) = refusal-named r k refusal (Send (message.Refused from to n code)) other e in
          (cc, cc, cc, (refusal, refl, cc))
    ]

told-refused : (r : Receiver) (k : ℕ) (any : TakeAnswer) (from to : StationId) (n code : ℕ) → take_reply r k any ≡ Some (Send (message.Refused from to n code))
    → (from ≡ r.own) × (to ≡ r.peer) × (k ≡ n) × IsRefusal any code
told-refused r k answer.Taken from to n code e = absurd cc
told-refused r k (answer.Already last) from to n code e = absurd cc
told-refused r k (answer.Refused refusal) from to n code e = refused-refused r k refusal from to n code e
told-refused r k answer.Other from to n code e = absurd cc

answered-refused : (r : Receiver) (p taken : Option ℕ) (any : TakeAnswer) (from to : StationId) (n code : ℕ) → ((k : ℕ) → p ≡ Some k → taken ≡ Some k)
    → (after_answer r p any).1 ≡ Some (Send (message.Refused from to n code)) → (from ≡ r.own) × (to ≡ r.peer) × (taken ≡ Some n) × IsRefusal any code
answered-refused r None taken any from to n code h e = absurd cc
answered-refused r (Some k) taken any from to n code h e =
    let t = told-refused r k any from to n code e in (t.0, t.1, h k refl ∙ ap some t.2, t.3)

pub received-refused : (r : Receiver) (taken : Option ℕ) (event : InEvent (List ℕ)) (from to : StationId) (n code : ℕ) → IsTaken r taken
    → (receiving_step r event).1 ≡ Some (Send (message.Refused from to n code))
    → (from ≡ r.own) × (to ≡ r.peer) × (taken ≡ Some n) × ((refusal : Refusal) × (event ≡ Answered (answer.Refused refusal)) × (code ≡ number_of refusal))
received-refused r taken (Heard (message.Data a b number limit payload)) from to n code h e =
    let take = heard (((a.0 == r.peer.0) && (b.0 == r.own.0)) && is_none r.pending) r number limit payload (Send (message.Refused from to n code)) e in
    let same : named (Take number limit payload) ≡ named (Send (message.Refused from to n code)) = ap named take.1 in
    absurd cc
received-refused r taken (Heard (message.Custody a b last)) from to n code h e = absurd cc
received-refused r taken (Heard (message.Refused a b number refusal)) from to n code h e = absurd cc
received-refused r taken (Heard (message.Heard a b last bits)) from to n code h e = absurd cc
received-refused r taken (Answered any) from to n code h e =
    let t = answered-refused r r.pending taken any from to n code h e in
    (t.0, t.1, t.2, (t.3.0, ap asked t.3.1, t.3.2))
received-refused r taken Lost from to n code h e = absurd cc

-- ---- a Take follows the received Data, and no action comes after it

gap-take : (r : Receiver) (k expected n limit : ℕ) (payload : List ℕ) → take_reply r k (answer.Refused (Gap expected)) ≡ Some (Take n limit payload) → ⊥
gap-take r k expected n limit payload e =
    let gap = otherwise (expected == 0) (Send (message.Custody r.own r.peer (expected - 1))) (Take n limit payload) e in
    let same : named (Send (message.Custody r.own r.peer (expected - 1))) ≡ named (Take n limit payload) = ap named gap.1 in
    cc

refused-take : (r : Receiver) (k : ℕ) (refusal : Refusal) (n limit : ℕ) (payload : List ℕ) → take_reply r k (answer.Refused refusal) ≡ Some (Take n limit payload) → ⊥
refused-take r k refusal n limit payload e =
    elim (gap-or-other r k refusal) [
      | inl gap ↦ subst (λ (x : Refusal). take_reply r k (answer.Refused x) ≡ Some (Take n limit payload) → ⊥) (sym gap.1) (gap-take r k gap.0 n limit payload) e
      | inr other ↦
          let same : named (Send (message.Refused r.own r.peer k (number_of refusal))) ≡ named (Take n limit payload) = refusal-named r k refusal (Take n limit payload) other e in
          cc
    ]

told-take : (r : Receiver) (k : ℕ) (any : TakeAnswer) (n limit : ℕ) (payload : List ℕ) → take_reply r k any ≡ Some (Take n limit payload) → ⊥
told-take r k answer.Taken n limit payload e = cc
told-take r k (answer.Already last) n limit payload e = cc
told-take r k (answer.Refused refusal) n limit payload e = refused-take r k refusal n limit payload e
told-take r k answer.Other n limit payload e = cc

answered-take : (r : Receiver) (p : Option ℕ) (any : TakeAnswer) (n limit : ℕ) (payload : List ℕ) → (after_answer r p any).1 ≡ Some (Take n limit payload) → ⊥
answered-take r None any n limit payload e = cc
answered-take r (Some k) any n limit payload e = told-take r k any n limit payload e

pub received-take : (r : Receiver) (event : InEvent (List ℕ)) (n limit : ℕ) (payload : List ℕ) → (receiving_step r event).1 ≡ Some (Take n limit payload)
    → (event ≡ Heard (message.Data r.peer r.own n limit payload)) × ((receiving_step r event).0.pending ≡ Some n)
received-take r (Heard (message.Data from to number limit' payload')) n limit payload e =
    let take = heard (((from.0 == r.peer.0) && (to.0 == r.own.0)) && is_none r.pending) r number limit' payload' (Take n limit payload) e in
    let same : named (Take number limit' payload') ≡ named (Take n limit payload) = ap named take.1 in
    let tests = and_parts ((from.0 == r.peer.0) && (to.0 == r.own.0)) (is_none r.pending) take.0 in
    let stations = and_parts (from.0 == r.peer.0) (to.0 == r.own.0) tests.0 in
    let first : from ≡ r.peer = station-is from r.peer stations.0 in
    let second : to ≡ r.own = station-is to r.own stations.1 in
    (cc, rw take.0 cc)
received-take r (Heard (message.Custody a b last)) n limit payload e = absurd cc
received-take r (Heard (message.Refused a b number refusal)) n limit payload e = absurd cc
received-take r (Heard (message.Heard a b last bits)) n limit payload e = absurd cc
received-take r (Answered any) n limit payload e = absurd (answered-take r r.pending any n limit payload e)
received-take r Lost n limit payload e = absurd cc

pub length-in_actions : (r : Receiver) (events : List (InEvent (List ℕ))) → length (in_actions r events) ≡ length events
length-in_actions r [] = refl
length-in_actions r (event ∷ events) = let more = length-in_actions (receiving_step r event).0 events in omega (arith, more)

-- a message is not taken while a Take is pending
pub waiting : (r : Receiver) (n : ℕ) (m : Message (List ℕ)) → r.pending ≡ Some n → receiving_step r (Heard m) ≡ (r, None)
waiting r n (message.Data from to number limit payload) e =
    let some : is_none r.pending ≡ false = ap is_none e in
    rw (and_right ((from.0 == r.peer.0) && (to.0 == r.own.0)) (is_none r.pending) some) refl
waiting r n (message.Custody from to last) e = refl
waiting r n (message.Refused from to number refusal) e = refl
waiting r n (message.Heard from to last bits) e = refl

pub silent : (r : Receiver) (n : ℕ) (heard : List (InEvent (List ℕ))) → r.pending ≡ Some n → AllByRecursion IsHeard heard
    → AllByRecursion (λ (named : Option (InAction (List ℕ))). named ≡ None) (in_actions r heard)
silent r n [] e h = tt
silent r n (Heard m ∷ heard) e h =
    subst (λ (x : ReceivingResult). (x.1 ≡ None) × AllByRecursion (λ (named : Option (InAction (List ℕ))). named ≡ None) (in_actions x.0 heard)) (sym (waiting r n m e)) (refl, silent r n heard e h.1)
silent r n (Answered any ∷ heard) e h = absurd h.0
silent r n (Lost ∷ heard) e h = absurd h.0
