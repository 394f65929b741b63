-- Two relays whose workers wait for each reply are a case of two relays, and at most one call waits at each end.
use Rattle.std.proofs.Common.{ℕ, ◌≡◌, ◌+◌, ◌≤◌, Bool, true, false, nat_le, nat_lt, if◌then◌else◌}
use Rattle.std.proofs.Common.{List, [], ◌∷◌, ◌++◌, length, map, refl, arith, ap, Option, Some, None}
use Rattle.std.specs.Prelude.{slice_get}
use Rattle.std.proofs.lemmas.Bool.{ltb-false}
use Rattle.std.proofs.lemmas.List.{length-append, length-map}
use Rattle.rly_core.specs.declared.ids.HopId.{HopId}
use Rattle.rly_core.specs.declared.ids.PeerId.{PeerId}
use Rattle.rly_hop.specs.declared.message.Message.{Message}
use Rattle.rly_hop.specs.declared.receiving.event.InAction.{InAction}
use Rattle.rly_hop.specs.declared.receiving.event.InAction.TheVariants as in_action
use Rattle.rly_hop.specs.declared.receiving.event.InEvent.TheVariants as in_event
use Rattle.rly_hop.specs.declared.sending.event.OutAction.{OutAction}
use Rattle.rly_hop.specs.declared.sending.event.OutAction.TheVariants as out_action
use Rattle.rly_hop.specs.declared.sending.event.OutEvent.TheVariants as out_event
use Rattle.rly_hop.specs.Receiver.{Receiver}
use Rattle.rly_hop.specs.Receiving.{ReceivingResult, receiving_step}
use Rattle.rly_hop.specs.Sending.{SendingResult, sending_step}
use Rattle.rly_machine.specs.declared.command.Ask.{Ask}
use Rattle.rly_world.specs.PairCores.{is_for_receiver, is_for_sender, receiver_asks, sender_asks, sender_event}
use Rattle.rly_world.specs.PairCores.{take_answer}
use Rattle.rly_world.specs.PairEnd.{Asked, End, CallFate, Replied, after_call, may_go, reply_at, reply_by}
use Rattle.rly_world.specs.PairEnd.{reported_by, with_asked, with_crash, with_made, with_other, end_after_answer}
use Rattle.rly_world.specs.PairWaits.{is_before_answer, waiting_after, waiting_count, waiting_step}
use Rattle.rly_world.specs.PairWorld.{PairEvent, PairSetup, PairWorld, pair_after, pair_start, pair_step}
use Rattle.rly_world.specs.PairWorld.{Turns, Timeout, FetchesAhead, PicksAhead, UpperHears, LowerHears, UpperMakes, LowerMakes}
use Rattle.rly_world.specs.PairWorld.{UpperAnswers, LowerAnswers, UpperServes, LowerServes, UpperCrashes, LowerCrashes}
use Rattle.rly_world.specs.PairWorld.{lower_answers, lower_hears, receiver_answered, new_receivers, new_sender}
use Rattle.rly_world.specs.PairWorld.{upper_answers, upper_hears, with_receiver, with_sender}
use Rattle.rly_world.proofs.PairCoreSteps.{either}

-- each list of events, with the early ones left out, is a list of events
pub in_time : (w : PairWorld) (events : List PairEvent)
    → (fewer : List PairEvent) × (waiting_after w events ≡ pair_after w fewer)
in_time w [] = ([], refl)
in_time w (event ∷ events) =
    elim (is_before_answer w event) as (λ b. (fewer : List PairEvent)
    × (waiting_after (if b then w else pair_step w event) events ≡ pair_after w fewer)) [
      | true ↦ in_time w events
      | false ↦ (let rest = in_time (pair_step w event) events in (event ∷ rest.0, rest.1))
    ]

-- at most one call waits
pub record Alone (w : PairWorld) : Type 0 where
  pub upper : waiting_count w.upper ≤ 1
  pub lower : waiting_count w.lower ≤ 1

-- a core makes at most one request
one_sent : (hop : HopId) (moment : ℕ) (action : Option (OutAction (List ℕ)))
    → length (sender_asks hop moment action) ≤ 1
one_sent hop moment (Some out_action.AskWindow) = omega arith
one_sent hop moment (Some (out_action.Release number)) = omega arith
one_sent hop moment (Some (out_action.Fetch number)) = omega arith
one_sent hop moment (Some out_action.Pick) = omega arith
one_sent hop moment (Some (out_action.Send m)) = omega arith
one_sent hop moment None = omega arith

one_taken : (peer : PeerId) (hop : HopId) (stamp : ℕ) (action : Option (InAction (List ℕ)))
    → length (receiver_asks peer hop stamp action) ≤ 1
one_taken peer hop stamp (Some (in_action.Take number limit payload)) = omega arith
one_taken peer hop stamp (Some (in_action.Send m)) = omega arith
one_taken peer hop stamp None = omega arith

-- the number of additional waiting calls
more_wait : (e : End) (core : ℕ) (asks : List Ask)
    → waiting_count (with_asked e core asks) ≡ waiting_count e + length asks
more_wait e core asks =
    let wait : Ask → Asked = λ ask. record { core = core; ask = ask } in
    omega (arith, length-append e.asked (map wait asks), length-map asks wait)

sender_alone : (w : PairWorld) (moment : ℕ) (is_sent : Bool) (result : SendingResult)
    → waiting_count w.upper ≡ 0 → waiting_count w.lower ≤ 1 → Alone (with_sender w moment is_sent result)
sender_alone w moment is_sent result none below = record {
  upper = omega (
    arith,
    none,
    more_wait w.upper 0
        (sender_asks w.setup.hop moment result.1),
    one_sent w.setup.hop moment result.1,
  );
  lower = below;
}

receiver_alone : (w : PairWorld) (core : ℕ) (hop : HopId) (stamp : ℕ) (is_sent : Bool) (result : ReceivingResult)
    → waiting_count w.lower ≡ 0 → waiting_count w.upper ≤ 1 → Alone (with_receiver w core hop stamp is_sent result)
receiver_alone w core hop stamp is_sent result none below = record {
  upper = below;
  lower = omega (
    arith,
    none,
    more_wait w.lower core (receiver_asks w.setup.peer hop stamp result.1),
    one_taken w.setup.peer hop stamp result.1,
  );
}

-- a call that is made still waits
made_waits : (e : End) (outcome : CallFate) (calls : List Asked) → e.asked ≡ calls
    → waiting_count (with_made e outcome calls) ≡ waiting_count e
made_waits e outcome [] is = refl
made_waits e outcome (call ∷ calls) is =
    let after : End = after_call e call.ask outcome in
    let due : Replied = record {
      call = call;
      reply = reply_by outcome (reply_at e call.ask);
      position = reported_by outcome (length after.accepted);
    } in
    either (may_go e call.ask outcome) (record after { asked = calls; replied = e.replied ++ due ∷ [] }) e
    (λ x. waiting_count x ≡ waiting_count e)
    (omega (arith, length-append e.replied (due ∷ []), ap length is)) refl

other_waits : (e : End) (ask : Ask) (outcome : CallFate) (is_answered : Bool)
    → waiting_count (with_other e ask outcome is_answered) ≡ waiting_count e
other_waits e ask outcome is_answered =
    let after : End = after_call e ask outcome in
    let told : End = end_after_answer after (reply_by outcome (reply_at e ask)) (length after.accepted) in
    either (may_go e ask outcome) (if is_answered then told else after) e (λ x. waiting_count x ≡ waiting_count e)
    (either is_answered told after (λ x. waiting_count x ≡ waiting_count e) refl refl) refl

upper_hears_alone : (w : PairWorld) (m : Option (Message (List ℕ))) → waiting_count w.upper ≡ 0 → Alone w
    → Alone (upper_hears w m)
upper_hears_alone w None none h = h
upper_hears_alone w (Some m) none h = sender_alone w 0 true (sending_step w.sender (out_event.Heard m)) none h.lower

lower_hears_alone : (w : PairWorld) (core : ℕ) (hop : HopId) (stamp : ℕ) (r : Option Receiver)
    (m : Option (Message (List ℕ)))
    → waiting_count w.lower ≡ 0 → Alone w → Alone (lower_hears w core hop stamp r m)
lower_hears_alone w core hop stamp None m none h = h
lower_hears_alone w core hop stamp (Some r) None none h = h
lower_hears_alone w core hop stamp (Some r) (Some m) none h =
    receiver_alone w core hop stamp true (receiving_step r (in_event.Heard m)) none h.upper

-- a reply ends the one wait
upper_answers_alone : (w : PairWorld) (is_sent : Bool) (due : List Replied) → w.upper.replied ≡ due → Alone w
    → Alone (upper_answers w is_sent due)
upper_answers_alone w is_sent [] is h = h
upper_answers_alone w is_sent (r ∷ rest) is h =
    let left : PairWorld = record w { upper = end_after_answer (record w.upper { replied = rest }) r.reply r.position } in
    sender_alone left 0 is_sent (sending_step w.sender (sender_event r.call.ask r.reply))
    (omega (arith, h.upper, ap length is)) h.lower

answered_alone : (w : PairWorld) (core : ℕ) (is_sent : Bool) (r : Replied) (it : Option Receiver)
    → waiting_count w.lower ≡ 0 → waiting_count w.upper ≤ 1 → Alone (receiver_answered w core is_sent r it)
answered_alone w core is_sent r None none below = record { upper = below; lower = omega (arith, none) }
answered_alone w core is_sent r (Some it) none below =
    receiver_alone w core (record { 0 = 0 }) 0 is_sent
    (receiving_step it (in_event.Answered (take_answer r.reply))) none below

lower_answers_alone : (w : PairWorld) (is_sent : Bool) (due : List Replied) → w.lower.replied ≡ due → Alone w
    → Alone (lower_answers w is_sent due)
lower_answers_alone w is_sent [] is h = h
lower_answers_alone w is_sent (r ∷ rest) is h =
    let left : PairWorld = record w { lower = end_after_answer (record w.lower { replied = rest }) r.reply r.position } in
    answered_alone left r.call.core is_sent r (slice_get w.receivers r.call.core)
    (omega (arith, h.lower, ap length is)) h.upper

-- ---- every event

-- an event that isn't early finds no call waiting
if_in_time : (w left : PairWorld) (count : ℕ) → (count ≡ 0 → Alone left) → Alone w
    → Alone (if nat_lt 0 count then w else left)
if_in_time w left count goes h = elim (nat_lt 0 count) as (λ b. nat_lt 0 count ≡ b → Alone (if b then w else left)) [
  | true ↦ λ is. h
  | false ↦ λ is. goes (let none = ltb-false 0 count is in omega (arith, none))
] refl

pub step_alone : (w : PairWorld) (event : PairEvent) → Alone w → Alone (waiting_step w event)
step_alone w (Turns is_open moment) h =
    if_in_time w (pair_step w (Turns is_open moment)) (waiting_count w.upper)
    (λ none. sender_alone w moment true (sending_step w.sender (out_event.Turn is_open)) none h.lower) h
step_alone w Timeout h =
    if_in_time w (pair_step w Timeout) (waiting_count w.upper)
    (λ none. sender_alone w 0 true (sending_step w.sender out_event.Timeout) none h.lower) h
step_alone w (FetchesAhead number) h =
    if_in_time w (pair_step w (FetchesAhead number)) (waiting_count w.upper)
    (λ none. record {
      upper = omega (
        arith,
        none,
        more_wait w.upper 0
            (sender_asks w.setup.hop 0 (Some (out_action.Fetch number))),
      );
      lower = h.lower;
    }) h
step_alone w (PicksAhead moment) h =
    if_in_time w (pair_step w (PicksAhead moment)) (waiting_count w.upper)
    (λ none. record { upper = omega (arith, none, more_wait w.upper 0 (sender_asks w.setup.hop moment (Some out_action.Pick))); lower = h.lower }) h
step_alone w (UpperHears packet) h =
    if_in_time w (pair_step w (UpperHears packet)) (waiting_count w.upper)
    (λ none. upper_hears_alone w (slice_get w.packets packet) none h) h
step_alone w (LowerHears packet core hop stamp) h =
    if_in_time w (pair_step w (LowerHears packet core hop stamp)) (waiting_count w.lower)
    (λ none. lower_hears_alone w core hop stamp (slice_get w.receivers core) (slice_get w.packets packet) none h) h
step_alone w (UpperMakes outcome) h = record {
  upper = omega
      (arith, h.upper, made_waits w.upper outcome w.upper.asked refl);
  lower = h.lower;
}
step_alone w (LowerMakes outcome) h = record {
  upper = h.upper;
  lower = omega
      (arith, h.lower, made_waits w.lower outcome w.lower.asked refl);
}
step_alone w (UpperAnswers is_sent) h = upper_answers_alone w is_sent w.upper.replied refl h
step_alone w (LowerAnswers is_sent) h = lower_answers_alone w is_sent w.lower.replied refl h
step_alone w (UpperServes ask outcome is_answered) h =
    either (is_for_sender w.setup.hop ask) w (record w { upper = with_other w.upper ask outcome is_answered }) Alone h
    (record { upper = omega (arith, h.upper, other_waits w.upper ask outcome is_answered); lower = h.lower })
step_alone w (LowerServes ask outcome is_answered) h =
    either (is_for_receiver w.setup.peer ask) w
    (record w { lower = with_other w.lower ask outcome is_answered }) Alone h
    (record { upper = h.upper; lower = omega (arith, h.lower, other_waits w.lower ask outcome is_answered) })
step_alone w (UpperCrashes kept opens) h =
    either (nat_le w.upper.told kept)
    (record w { upper = with_crash w.upper kept opens; sender = new_sender w.setup }) w Alone
    (record { upper = omega arith; lower = h.lower }) h
step_alone w (LowerCrashes kept opens) h =
    either (nat_le w.lower.told kept)
    (record w { lower = with_crash w.lower kept opens; receivers = new_receivers w.setup }) w Alone
    (record { upper = h.upper; lower = omega arith }) h

pub all_alone : (w : PairWorld) (events : List PairEvent) → Alone w → Alone (waiting_after w events)
all_alone w [] h = h
all_alone w (event ∷ events) h = all_alone (waiting_step w event) events (step_alone w event h)

pub start_alone : (setup : PairSetup) → Alone (pair_start setup)
start_alone setup = record { upper = omega arith; lower = omega arith }
