-- A sending worker within a turn.
use Rattle.std.proofs.Common.{◌≡◌, ◌∙◌, ◌<◌, ◌≤◌, ◌+◌, ◌++◌, ℕ, Bool, List, [], ◌∷◌, ap, arith, false, inl, inr, length, map, refl, reverse, subst, suc, sym, true, zero}
use Rattle.std.specs.Prelude.{◌-◌, ◌==◌, ◌⊎◌, slice_index_or, fold, nat_lt, take, if◌then◌else◌, Option, Some, None, Result, Ok, Err, IfErr, IfNone, IfSome, OnOk}
use Rattle.std.proofs.lemmas.Bool.Decides.{nat_tests}
use Rattle.std.specs.List.{cons_option, filter, filter_map, range_with_len, zip}
use Rattle.std.proofs.lemmas.List.{append-nil, append_assoc, length-append, length-take, map-append, reverse-reverse, take_all}
use Rattle.std.proofs.lemmas.List.Elements.{filter_map-append}
use Rattle.std.proofs.lemmas.List.FromFn.{length-map-range_with_len, map-range_with_len_more}
use Rattle.rly_core.specs.declared.params.Params.{Params}
use Rattle.rly_hop.specs.declared.sending.event.OutAction.{OutAction}
use Rattle.rly_hop.specs.declared.sending.event.OutAction.TheVariants as action
use Rattle.rly_hop.specs.declared.sending.event.OutEvent.{OutEvent}
use Rattle.rly_hop.specs.Payloads.{out_action_bytes}
use Rattle.rly_hop.specs.Sending.{sender}
use Rattle.rly_hop_pacing.specs.CongestionControl.{ControlView, is_missing, repeats, spare_number}
use Rattle.rly_hop_pacing.specs.Flights.{sent_numbers}
use Rattle.rly_line.specs.declared.call_error.BatchError.{BatchError}
use Rattle.rly_machine.specs.declared.call.Answer.{Answer}
use Rattle.rly_machine.specs.declared.command.Ask.{Ask}
use Rattle.rly_core.specs.declared.ids.HopId.{HopId}
use Rattle.rly_plan.specs.ContactPlan.{ContactPlan, is_open, next_hop_at, rate, resend}
use Rattle.rly_plan.specs.declared.neighbour.Neighbour.{Neighbour}
use Rattle.rly_threads_workers.specs.WorkerRuns.{HasSent}
use Rattle.rly_link.specs.declared.turn.Go.{Go}
use Rattle.rly_link.specs.declared.turn.Point.TheVariants.{Answered, Call, Heard}
use Rattle.rly_link.specs.declared.turn.Worker.TheVariants as worker
use Rattle.rly_threads_workers.specs.DeskExchanges.{batch_outcome}
use Rattle.rly_link.specs.LinkHistory.{TellsMore, new_hearing}
use Rattle.rly_threads_workers.specs.declared.calls.Calls.{Calls}
use Rattle.rly_threads_workers.specs.declared.sender_state.SenderState.{SenderState}
use Rattle.rly_threads_workers.specs.SenderTurns.{SenderWorker, again_numbers, call_at, calls_from, contact_left, core_call_at, core_count, core_requests, event_in, named_ask, or_pick, repeat_count, after_out_event, sender_worker, sender_done, sender_events, sender_on_calls, sender_on_packet, sender_requests, sender_sent, sender_sleep, sender_turn, sent_on}
use Rattle.rly_threads_workers.specs.SenderState.{first_sender_state, on_moment, send_room, with_left}
use Rattle.rly_threads_workers.specs.HelpersTurns.{AreListed, Did, HasCallRoom, HasHeard, HasHandedEvent, HasNumbers, HasRequested, IsCall, IsSameTurn, answers_in, asks_in, coming_in, outcome_events}
use Rattle.rly_threads_workers.specs.Runs.{EndsView, Ran}
use Rattle.rly_link.specs.declared.link.Sleep.{Sleep}
use Rattle.rly_link.specs.declared.link.Sleep.TheVariants.{No}
use Rattle.rly_threads_workers.specs.Turns.{Given, Made, around_call, done_in, hearings_from, receives_of, sleep_at, with_hearings}
use Rattle.rly_threads_workers.proofs.Grown.{did_ask, did_hear, did_nothing, no_call, tells_more, tells_nothing}

-- a core without events
pub told_none : (in_contact : Bool) (at : ℕ) (ends : EndsView) (p : SenderState) → HasHandedEvent in_contact at ends ends p p []
told_none in_contact at ends p = record { core = refl; sent = tells_nothing ends.sent; same = refl }

after_more : (in_contact : Bool) (at : ℕ) (p : SenderState) (done : List (OutEvent (List ℕ))) (e : OutEvent (List ℕ))
    → fold (after_out_event in_contact at) p (done ++ e ∷ []) ≡ after_out_event in_contact at (fold (after_out_event in_contact at) p done) e
after_more in_contact at p [] e = refl
after_more in_contact at p (d ∷ done) e = after_more in_contact at (after_out_event in_contact at p d) done e

sent_more : (in_contact : Bool) (at : ℕ) (p : SenderState) (done : List (OutEvent (List ℕ))) (e : OutEvent (List ℕ))
    → sender_sent in_contact at p (done ++ e ∷ []) ≡ sender_sent in_contact at p done ++ sent_on in_contact at (fold (after_out_event in_contact at) p done) e
sent_more in_contact at p [] e = append-nil (sent_on in_contact at p e)
sent_more in_contact at p (d ∷ done) e =
    let first = sent_on in_contact at p d in
    let next = after_out_event in_contact at p d in
    ap (λ l. first ++ l) (sent_more in_contact at next done e)
    ∙ sym (append_assoc first (sender_sent in_contact at next done) (sent_on in_contact at (fold (after_out_event in_contact at) next done) e))

-- a core with one more event
pub told_more : (in_contact : Bool) (at : ℕ) (old mid new : EndsView) (p q r : SenderState) (done : List (OutEvent (List ℕ))) (e : OutEvent (List ℕ))
    → HasHandedEvent in_contact at old mid p q done → r ≡ after_out_event in_contact at q e
    → TellsMore mid.sent new.sent (sent_on in_contact at q e) → new ≡ record mid { sent = new.sent }
    → HasHandedEvent in_contact at old new p r (done ++ e ∷ [])
told_more in_contact at old mid new p q r done e h told sent same =
    let before = fold (after_out_event in_contact at) p done in
    let sent_is : TellsMore mid.sent new.sent (sent_on in_contact at before e) = subst (λ x. TellsMore mid.sent new.sent (sent_on in_contact at x e)) h.core sent in
    record {
      core = told ∙ ap (λ x. after_out_event in_contact at x e) h.core ∙ sym (after_more in_contact at p done e);
      sent = subst (TellsMore old.sent new.sent) (sym (sent_more in_contact at p done e))
          (tells_more old.sent mid.sent new.sent (sender_sent in_contact at p done) (sent_on in_contact at before e) h.sent sent_is);
      same = same ∙ (λ i. record (h.same i) { sent = new.sent });
    }

zip_more : {A B : Type 0} (xs : List A) (ys : List B) (x : A) (y : B) → length ys ≡ length xs → zip (xs ++ x ∷ []) (ys ++ y ∷ []) ≡ zip xs ys ++ (x, y) ∷ []
zip_more [] [] x y same = refl
zip_more [] (z ∷ ys) x y same = absurd (omega (arith, same))
zip_more (w ∷ xs) [] x y same = absurd (omega (arith, same))
zip_more (w ∷ xs) (z ∷ ys) x y same = ap (λ l. (w, z) ∷ l) (zip_more xs ys x y (omega (arith, same)))

-- one more call
pub calls_more : (again : List ℕ) (named : OutAction (List ℕ)) (count : ℕ) → calls_from again named (count + 1) ≡ calls_from again named count ++ call_at again named count ∷ []
calls_more again named count = map-range_with_len_more (call_at again named) 0 count count (omega arith)

pub length_calls : (again : List ℕ) (named : OutAction (List ℕ)) (count : ℕ) → length (calls_from again named count) ≡ count
length_calls again named count = length-map-range_with_len (call_at again named) 0 count

-- one more answer
pub events_more : (again : List ℕ) (named : OutAction (List ℕ)) (count : ℕ) (answers : List Answer) (answer : Answer) → length answers ≡ count
    → sender_events (calls_from again named (count + 1)) (Ok (answers ++ answer ∷ []))
    ≡ sender_events (calls_from again named count) (Ok answers) ++ event_in (call_at again named count) answer.reply ∷ []
events_more again named count answers answer each =
    let told : (OutAction (List ℕ) × Answer) → OutEvent (List ℕ) = λ x. event_in x.0 x.1.reply in
    let calls = calls_from again named count in
    let last = call_at again named count in
    ap (λ l. map told (zip l (answers ++ answer ∷ []))) (calls_more again named count)
    ∙ ap (map told) (zip_more calls answers last answer (each ∙ sym (length_calls again named count)))
    ∙ map-append told (zip calls answers) ((last, answer) ∷ [])

-- so far: these were answered
pub record Telling (again : List ℕ) (named : OutAction (List ℕ)) (in_contact : Bool) (at : ℕ) (old now : EndsView) (before after : SenderState) (all left : List Answer) (place : ℕ) : Type 0 where
  pub done : List Answer
  pub parts : all ≡ done ++ left
  pub count : length done ≡ place
  pub told : HasHandedEvent in_contact at old now before after (sender_events (calls_from again named place) (Ok done))

pub telling_more : (again : List ℕ) (named : OutAction (List ℕ)) (in_contact : Bool) (at : ℕ) (old mid new : EndsView) (p q r : SenderState) (all left rest : List Answer) (place : ℕ)
    (answer : Answer) (e : OutEvent (List ℕ))
    → Telling again named in_contact at old mid p q all left place → left ≡ answer ∷ rest → e ≡ event_in (call_at again named place) answer.reply
    → r ≡ after_out_event in_contact at q e → TellsMore mid.sent new.sent (sent_on in_contact at q e) → new ≡ record mid { sent = new.sent }
    → Telling again named in_contact at old new p r all rest (place + 1)
telling_more again named in_contact at old mid new p q r all left rest place answer e h lefts is told sent same =
    let more = told_more in_contact at old mid new p q r (sender_events (calls_from again named place) (Ok h.done)) e h.told told sent same in
    let events : sender_events (calls_from again named place) (Ok h.done) ++ e ∷ [] ≡ sender_events (calls_from again named (place + 1)) (Ok (h.done ++ answer ∷ [])) =
    ap (λ x. sender_events (calls_from again named place) (Ok h.done) ++ x ∷ []) is ∙ sym (events_more again named place h.done answer h.count) in
    record {
      done = h.done ++ answer ∷ [];
      parts = h.parts ∙ ap (λ l. h.done ++ l) lefts ∙ sym (append_assoc h.done (answer ∷ []) rest);
      count = omega (arith, length-append h.done (answer ∷ []), h.count);
      told = subst (HasHandedEvent in_contact at old new p r) events more;
    }

pub telling_none : (again : List ℕ) (named : OutAction (List ℕ)) (in_contact : Bool) (at : ℕ) (ends : EndsView) (p : SenderState) (all left : List Answer) → left ≡ all
    → Telling again named in_contact at ends ends p p all left 0
telling_none again named in_contact at ends p all left is = record { done = []; parts = sym is; count = refl; told = told_none in_contact at ends p }

-- all were answered
pub telling_all : (again : List ℕ) (named : OutAction (List ℕ)) (in_contact : Bool) (at : ℕ) (old now : EndsView) (before after : SenderState) (all left : List Answer) (place : ℕ)
    → Telling again named in_contact at old now before after all left place → left ≡ []
    → HasHandedEvent in_contact at old now before after (sender_events (calls_from again named (length all)) (Ok all))
telling_all again named in_contact at old now before after all left place h none =
    let whole : all ≡ h.done = h.parts ∙ ap (λ l. h.done ++ l) none ∙ append-nil h.done in
    let count : place ≡ length all = sym h.count ∙ ap length (sym whole) in
    subst (HasHandedEvent in_contact at old now before after) (λ i. sender_events (calls_from again named (count i)) (Ok (sym whole i))) h.told

-- a Release has an ask, and so does a Pick
release_asks : (w : SenderWorker) (now number : ℕ) (is_first : Bool) → (ask : Ask) × (named_ask w now (if is_first then action.Release number else action.Pick) ≡ Some ask)
release_asks w now number true = (_, refl)
release_asks w now number false = (_, refl)

-- the ask of a call for the core's request
core_ask_at : (w : SenderWorker) (now : ℕ) (named : OutAction (List ℕ)) (place : ℕ) → IsCall named → (ask : Ask) × (named_ask w now (core_call_at named place) ≡ Some ask)
core_ask_at w now action.AskWindow place is = (_, refl)
core_ask_at w now (action.Release number) place is = release_asks w now number (place == 0)
core_ask_at w now (action.Fetch number) place is = (_, refl)
core_ask_at w now action.Pick place is = (_, refl)
core_ask_at w now (action.Send m) place is = absurd is

either_asks : (w : SenderWorker) (now number : ℕ) (named : OutAction (List ℕ)) (is_again : Bool) → ((ask : Ask) × (named_ask w now named ≡ Some ask))
    → (ask : Ask) × (named_ask w now (if is_again then action.Fetch number else named) ≡ Some ask)
either_asks w now number named true one = (_, refl)
either_asks w now number named false one = one

-- the ask of a call that is nothing else
ask_at : (w : SenderWorker) (now : ℕ) (again : List ℕ) (named : OutAction (List ℕ)) (place : ℕ) → IsCall named → (ask : Ask) × (named_ask w now (call_at again named place) ≡ Some ask)
ask_at w now again named place is =
    either_asks w now (slice_index_or again place 0) (core_call_at named (place - length again)) (nat_lt place (length again)) (core_ask_at w now named (place - length again) is)

cons_some : {A : Type 0} (x : Option A) (a : A) (xs : List A) → x ≡ Some a → length (cons_option x xs) ≡ suc (length xs)
cons_some x a xs e = ap (λ y. length (cons_option y xs)) e

each_asks : (w : SenderWorker) (now : ℕ) (again : List ℕ) (named : OutAction (List ℕ)) (from count : ℕ) → IsCall named → length (filter_map (named_ask w now) (map (call_at again named) (range_with_len from count))) ≡ count
each_asks w now again named from zero is = refl
each_asks w now again named from (suc count) is =
    let one = ask_at w now again named from is in
    cons_some (named_ask w now (call_at again named from)) one.0 (filter_map (named_ask w now) (map (call_at again named) (range_with_len (from + 1) count))) one.1
    ∙ ap suc (each_asks w now again named (from + 1) count is)

-- there is an ask for each call
pub length_asks : (w : SenderWorker) (now : ℕ) (again : List ℕ) (named : OutAction (List ℕ)) (count : ℕ) → IsCall named → length (filter_map (named_ask w now) (calls_from again named count)) ≡ count
length_asks w now again named count is = each_asks w now again named 0 count is

-- one more is listed
pub asks_more : (w : SenderWorker) (now : ℕ) (again : List ℕ) (named : OutAction (List ℕ)) (count : ℕ)
    → filter_map (named_ask w now) (calls_from again named (count + 1)) ≡ filter_map (named_ask w now) (calls_from again named count) ++ cons_option (named_ask w now (call_at again named count)) []
asks_more w now again named count =
    ap (filter_map (named_ask w now)) (calls_more again named count) ∙ filter_map-append (named_ask w now) (calls_from again named count) (call_at again named count ∷ [])

cons_few : {A : Type 0} (x : Option A) → length (cons_option x []) ≤ 1
cons_few None = omega arith
cons_few (Some a) = omega arith

-- no more asks than calls
pub few_asks : (w : SenderWorker) (now : ℕ) (again : List ℕ) (named : OutAction (List ℕ)) (count : ℕ) → length (filter_map (named_ask w now) (calls_from again named count)) ≤ count
few_asks w now again named zero = omega arith
few_asks w now again named (suc count) =
    let some = filter_map (named_ask w now) (calls_from again named count) in
    let one = cons_option (named_ask w now (call_at again named count)) [] in
    let next : suc count ≡ count + 1 = omega arith in
    omega (
      arith,
      ap (λ n. length (filter_map (named_ask w now) (calls_from again named n))) next,
      ap length (asks_more w now again named count),
      length-append some one,
      cons_few (named_ask w now (call_at again named count)),
      few_asks w now again named count,
    )

-- calls were submitted together, and the messages requested on their answers were sent or held back
pub called : (w : SenderWorker) (old mid new : EndsView) (now : ℕ) (made : Made) (p left : SenderState) (calls : List (OutAction (List ℕ))) (asks : List Ask) (in_contact : Bool)
    → 0 < length calls → asks ≡ filter_map (named_ask w now) calls
    → TellsMore old.asked mid.asked ((asks, made.outcome) ∷ []) → TellsMore old.handed mid.handed (around_call (worker.Sender w.hop) made)
    → mid ≡ record old { asked = mid.asked; handed = mid.handed } → in_contact ≡ is_open w.plan w.hop made.after.now
    → HasHandedEvent in_contact made.after.since mid new p left (sender_events calls made.outcome)
    → Did old new left (sender_on_calls w now made p calls)
called w old mid new now made p left [] asks in_contact some list asked around quiet opening told = absurd (omega (arith, some))
called w old mid new now made p left (first ∷ others) asks in_contact some list asked around quiet opening told =
    let calls = first ∷ others in
    let events = sender_events calls made.outcome in
    let at = made.after.since in
    let open_then = is_open w.plan w.hop made.after.now in
    let t : HasHandedEvent open_then at mid new p left events = subst (λ b. HasHandedEvent b at mid new p left events) opening told in
    did_ask old mid new left (fold (after_out_event open_then at) p events) (filter_map (named_ask w now) calls, made.outcome) (sender_sent open_then at p events)
    (around_call (worker.Sender w.hop) made)
    t.core (subst (λ l. TellsMore old.asked mid.asked ((l, made.outcome) ∷ [])) list asked) around quiet t.sent t.same

-- what is submitted for the core's request is a call
pub or_pick_is_call : (named : Option (OutAction (List ℕ))) → IsCall (or_pick named)
or_pick_is_call None = tt
or_pick_is_call (Some action.AskWindow) = tt
or_pick_is_call (Some (action.Release number)) = tt
or_pick_is_call (Some (action.Fetch number)) = tt
or_pick_is_call (Some action.Pick) = tt
or_pick_is_call (Some (action.Send m)) = tt

release_is : (number : ℕ) (is_first : Bool) → IsCall (if is_first then action.Release number else action.Pick)
release_is number true = tt
release_is number false = tt

core_call_is : (named : OutAction (List ℕ)) (place : ℕ) → IsCall named → IsCall (core_call_at named place)
core_call_is action.AskWindow place is = tt
core_call_is (action.Release number) place is = release_is number (place == 0)
core_call_is (action.Fetch number) place is = tt
core_call_is action.Pick place is = tt
core_call_is (action.Send m) place is = absurd is

either_is : (number : ℕ) (named : OutAction (List ℕ)) (is_again : Bool) → IsCall named → IsCall (if is_again then action.Fetch number else named)
either_is number named true is = tt
either_is number named false is = is

pub call_at_is_call : (again : List ℕ) (named : OutAction (List ℕ)) (place : ℕ) → IsCall named → IsCall (call_at again named place)
call_at_is_call again named place is =
    either_is (slice_index_or again place 0) (core_call_at named (place - length again)) (nat_lt place (length again)) (core_call_is named (place - length again) is)

-- no more calls than may be submitted together
lt_true : (a b : ℕ) → a < b → nat_lt a b ≡ true
lt_true a b h = grind (arith, nat_tests)

lt_false : (a b : ℕ) → b ≤ a → nat_lt a b ≡ false
lt_false a b h = grind (arith, nat_tests)

spare_few : (pace : ControlView) (most room at : ℕ) → length (if nat_lt 0 room then cons_option (spare_number pace at) [] else []) ≤ repeat_count most room
spare_few pace most zero at =
    omega (arith, ap (λ b. length (if b then cons_option (spare_number pace at) [] else [])) (lt_false 0 0 (omega arith)))
spare_few pace most (suc room) at =
    omega (arith, ap (λ b. length (if b then cons_option (spare_number pace at) [] else [])) (lt_true 0 (suc room) (omega arith)), cons_few (spare_number pace at))

-- no more numbers are sent again than may be in a turn
pub again_few : (pace : ControlView) (most room at : ℕ) (missing : List ℕ) → length missing ≤ repeat_count most room
    → length (again_numbers pace room at missing) ≤ repeat_count most room
again_few pace most room at [] few = spare_few pace most room at
again_few pace most room at (first ∷ others) few = few

pub missing_few : (pace : ControlView) (count at : ℕ) (missing : List ℕ) → missing ≡ repeats pace count at → length missing ≤ count
missing_few pace count at missing is = omega (arith, ap length is, length-take count (filter (is_missing pace at) (sent_numbers pace.flight)))

pub count_fits : (most room : ℕ) (p : SenderState) (named : Option (OutAction (List ℕ))) (again : ℕ) → 1 ≤ most → again ≤ repeat_count most room
    → again + core_count (most - again) (room - again) p named ≤ most
count_fits most room p None again some few = omega (arith, some, few)
count_fits most room p (Some named) again some few = grind arith

-- so far: these packets were received
pub record Hearing (sleep : Sleep) (old now : EndsView) (before after : SenderState) (place : ℕ) : Type 0 where
  pub packets : List (List ℕ)
  pub count : length packets ≡ place
  pub heard : TellsMore old.heard now.heard (hearings_from sleep (map (λ packet. Some packet) packets))
  pub same : now ≡ record old { heard = now.heard }
  pub core : after ≡ fold sender_on_packet before packets

pub hearing_none : (sleep : Sleep) (told : EndsView) (s : SenderState) → Hearing sleep told told s s 0
hearing_none sleep told s = record { packets = []; count = refl; heard = tells_nothing told.heard; same = refl; core = refl }

abbrev some_of : List (List ℕ) → List (Option (List ℕ))
some_of packets = map (λ packet. Some packet) packets

length_some : (packets : List (List ℕ)) → length (some_of packets) ≡ length packets
length_some [] = refl
length_some (p ∷ packets) = ap suc (length_some packets)

is_later : (n : ℕ) → (suc n == 0) ≡ false
is_later n = grind (arith, nat_tests)

-- the first receive waits or doesn't, and one after others doesn't
hearings_more : (sleep : Sleep) (xs : List (Option (List ℕ))) (x : Option (List ℕ)) → hearings_from sleep (xs ++ x ∷ []) ≡ hearings_from sleep xs ++ new_hearing (sleep_at (length xs) sleep) x ∷ []
hearings_more sleep [] x = refl
hearings_more sleep (y ∷ ys) x =
    let rest : map (λ (found : Option (List ℕ)). new_hearing No found) (ys ++ x ∷ []) ≡ map (λ (found : Option (List ℕ)). new_hearing No found) ys ++ new_hearing No x ∷ [] =
    map-append (λ (found : Option (List ℕ)). new_hearing No found) ys (x ∷ []) in
    let no : sleep_at (length (y ∷ ys)) sleep ≡ No = ap (λ b. if b then sleep else No) (is_later (length ys)) in
    ap (λ l. new_hearing sleep y ∷ l) rest
    ∙ ap (λ b. new_hearing sleep y ∷ (map (λ (found : Option (List ℕ)). new_hearing No found) ys ++ new_hearing b x ∷ [])) (sym no)

packet_last : (s : SenderState) (packets : List (List ℕ)) (packet : List ℕ) → fold sender_on_packet s (packets ++ packet ∷ []) ≡ sender_on_packet (fold sender_on_packet s packets) packet
packet_last s [] packet = refl
packet_last s (p ∷ packets) packet = packet_last (sender_on_packet s p) packets packet

first_at : (sleep : Sleep) (packets : List (List ℕ)) (place : ℕ) (now : Sleep) → length packets ≡ place → now ≡ sleep_at place sleep
    → now ≡ sleep_at (length (some_of packets)) sleep
first_at sleep packets place now count is = is ∙ ap (λ n. sleep_at n sleep) (sym (length_some packets ∙ count))

-- one more packet was received
pub hearing_more : (sleep : Sleep) (old mid new : EndsView) (s t u : SenderState) (place : ℕ) (packet : List ℕ) (now : Sleep)
    → Hearing sleep old mid s t place → now ≡ sleep_at place sleep
    → TellsMore mid.heard new.heard (new_hearing now (Some packet) ∷ []) → new ≡ record mid { heard = new.heard } → u ≡ sender_on_packet t packet
    → Hearing sleep old new s u (place + 1)
hearing_more sleep old mid new s t u place packet now h first heard same core =
    let all : some_of (h.packets ++ packet ∷ []) ≡ some_of h.packets ++ Some packet ∷ [] = map-append (λ (x : List ℕ). Some x) h.packets (packet ∷ []) in
    let hears : hearings_from sleep (some_of (h.packets ++ packet ∷ [])) ≡ hearings_from sleep (some_of h.packets) ++ new_hearing now (Some packet) ∷ [] =
    ap (hearings_from sleep) all ∙ hearings_more sleep (some_of h.packets) (Some packet)
    ∙ ap (λ b. hearings_from sleep (some_of h.packets) ++ new_hearing b (Some packet) ∷ []) (sym (first_at sleep h.packets place now h.count first)) in
    record {
      packets = h.packets ++ packet ∷ [];
      count = omega (arith, length-append h.packets (packet ∷ []), h.count);
      heard = subst (TellsMore old.heard new.heard) (sym hears) (tells_more old.heard mid.heard new.heard _ _ h.heard heard);
      same = same ∙ (λ i. record (h.same i) { heard = new.heard });
      core = core ∙ ap (λ x. sender_on_packet x packet) h.core ∙ sym (packet_last s h.packets packet);
    }

-- a receive returned nothing
pub hearing_quiet : (sleep : Sleep) (old mid new : EndsView) (s t : SenderState) (place : ℕ) (now : Sleep)
    → Hearing sleep old mid s t place → place < 64 → now ≡ sleep_at place sleep
    → TellsMore mid.heard new.heard (new_hearing now None ∷ []) → new ≡ record mid { heard = new.heard }
    → (packets : List (List ℕ)) × HasHeard sleep old new s t packets
hearing_quiet sleep old mid new s t place now h below first heard same =
    let fewer : length h.packets < 64 = omega (arith, h.count, below) in
    let all : receives_of h.packets ≡ some_of h.packets ++ None ∷ [] =
    ap (λ b. some_of h.packets ++ (if b then None ∷ [] else [])) (lt_true (length h.packets) 64 fewer) in
    let hears : hearings_from sleep (receives_of h.packets) ≡ hearings_from sleep (some_of h.packets) ++ new_hearing now None ∷ [] =
    ap (hearings_from sleep) all ∙ hearings_more sleep (some_of h.packets) None
    ∙ ap (λ b. hearings_from sleep (some_of h.packets) ++ new_hearing b None ∷ []) (sym (first_at sleep h.packets place now h.count first)) in (
      h.packets,
      record {
        few = omega (arith, fewer);
        heard = subst (TellsMore old.heard new.heard) (sym hears) (tells_more old.heard mid.heard new.heard _ _ h.heard heard);
        same = same ∙ (λ i. record (h.same i) { heard = new.heard });
        core = h.core;
      },
    )

-- 64 packets were received
pub hearing_full : (sleep : Sleep) (old now : EndsView) (s t : SenderState) (place : ℕ) → Hearing sleep old now s t place → place ≡ 64
    → (packets : List (List ℕ)) × HasHeard sleep old now s t packets
hearing_full sleep old now s t place h end =
    let full : length h.packets ≡ 64 = h.count ∙ end in
    let all : receives_of h.packets ≡ some_of h.packets =
    ap (λ b. some_of h.packets ++ (if b then None ∷ [] else [])) (lt_false (length h.packets) 64 (omega (arith, full))) ∙ append-nil (some_of h.packets) in (
      h.packets,
      record {
        few = omega (arith, full);
        heard = subst (TellsMore old.heard now.heard) (sym (ap (hearings_from sleep) all)) h.heard;
        same = h.same;
        core = h.core;
      },
    )

pub one_call_at_least : (c : Calls) → HasCallRoom c → 1 ≤ c.most
one_call_at_least c (inl many) = omega (arith, many.0)
one_call_at_least c (inr one) = omega (arith, one.0)

-- the first half of a turn, after its start
pub requested : (w : SenderWorker) (most : ℕ) (old told new : EndsView) (p heard ready after : SenderState) (c : Calls) (start : Go) (packets : List (List ℕ)) (go : Go) (left : Option ℕ) (in_contact : Bool)
    → HasHeard (sender_sleep w p start) old told p heard packets
    → TellsMore told.handed new.handed ((worker.Sender w.hop, Heard, go) ∷ [])
    → new ≡ record told { handed = new.handed }
    → left ≡ contact_left w go.now → in_contact ≡ is_open w.plan w.hop go.now → ready ≡ on_moment (with_left left heard) in_contact go.since
    → after ≡ (core_requests most (send_room ready go.since) go.since ready).state
    → AreListed w go.now c (core_requests most (send_room ready go.since) go.since ready).calls
    → HasRequested w most old new p after c start packets go
requested w most old told new p heard ready after c start packets go left in_contact hears at quiet lasts opening moment state calls =
    let same : new.heard ≡ told.heard = ap (λ t. t.heard) quiet in
    let ready_is : ready ≡ on_moment (with_left (contact_left w go.now) (fold sender_on_packet p packets)) (is_open w.plan w.hop go.now) go.since =
    moment ∙ (λ i. on_moment (with_left (lasts i) (hears.core i)) (opening i) go.since) in
    record {
      few = hears.few;
      heard = subst (λ h. TellsMore old.heard h (hearings_from (sender_sleep w p start) (receives_of packets))) (sym same) hears.heard;
      handed = subst (λ h. TellsMore h new.handed ((worker.Sender w.hop, Heard, go) ∷ [])) (ap (λ t. t.handed) hears.same) at;
      same = quiet ∙ (λ i. record (hears.same i) { handed = new.handed }) ∙ (λ i. record old { heard = sym same i; handed = new.handed });
      state = state ∙ ap (λ (q : SenderState). (core_requests most (send_room q go.since) go.since q).state) ready_is;
      calls = subst (λ (q : SenderState). AreListed w go.now c (core_requests most (send_room q go.since) go.since q).calls) ready_is calls;
    }

-- a turn, from its first half on
turned : (w : SenderWorker) (most : ℕ) (old mid new : EndsView) (p between left : SenderState) (c : Calls) (given : Given)
    → HasRequested w most old mid p between c given.start given.packets given.heard
    → Did mid new left (sender_on_calls w given.heard.now given.made between (sender_requests w most p given.packets given.heard).calls)
    → Did old new left (sender_done w most p given)
turned w most old mid new p between left c given h did =
    let whole : given.packets ≡ take 64 given.packets = sym (take_all 64 given.packets (omega (arith, h.few))) in
    let first = sender_requests w most p given.packets given.heard in
    let rest : Did mid new left (sender_on_calls w given.heard.now given.made first.state first.calls) =
    subst (λ (q : SenderState). Did mid new left (sender_on_calls w given.heard.now given.made q first.calls)) h.state did in
    let all = did_hear old mid new left (sender_on_calls w given.heard.now given.made first.state first.calls) (worker.Sender w.hop) (sender_sleep w p given.start) given.packets given.heard
    h.heard h.handed h.same rest in
    subst (λ (l : List (List ℕ)). Did old new left (with_hearings (worker.Sender w.hop) (sender_sleep w p given.start) l given.heard
    (sender_on_calls w given.heard.now given.made (sender_requests w most p l given.heard).state (sender_requests w most p l given.heard).calls))) whole all

pub none_of : {A : Type 0} (l : List A) → length l ≡ 0 → l ≡ []
none_of [] e = refl
none_of (x ∷ l) e = absurd (omega (arith, e))

-- a turn without calls
pub turned_none : (w : SenderWorker) (most : ℕ) (old new : EndsView) (p left : SenderState) (c : Calls) (start : Go) (packets : List (List ℕ)) (heard : Go)
    → HasRequested w most old new p left c start packets heard → length (asks_in c) ≡ 0
    → (given : Given) × (given.start ≡ start) × Did old new left (sender_done w most p given)
turned_none w most old new p left c start packets heard h none =
    let given : Given = record { start = start; packets = packets; heard = heard; made = no_call } in
    let calls : (sender_requests w most p packets heard).calls ≡ [] =
    h.calls.each ∙ ap (calls_from c.again.items (out_action_bytes c.named)) none in
    let did : Did new new left (sender_on_calls w heard.now no_call left (sender_requests w most p packets heard).calls) =
    subst (λ l. Did new new left (sender_on_calls w heard.now no_call left l)) (sym calls) (did_nothing new left) in (
      given,
      refl,
      turned w most old new new p left left c given h did,
    )

-- the same turn, step after step
pub same_turns : (c d e : Calls) → IsSameTurn c d → IsSameTurn d e → IsSameTurn c e
same_turns c d e first next = record {
  most = next.most ∙ first.most;
  again = next.again ∙ first.again;
  named = next.named ∙ first.named;
  room = next.room;
}

-- fewer numbers from that of a Fetch on fit as well
pub has_fewer : (named : OutAction (List ℕ)) (more less : ℕ) → less ≤ more → HasNumbers named more → HasNumbers named less
has_fewer action.AskWindow more less few has = tt
has_fewer (action.Release number) more less few has = tt
has_fewer (action.Fetch number) more less few has = omega (arith, few, has)
has_fewer action.Pick more less few has = tt
has_fewer (action.Send m) more less few has = tt

answer_count : (result : Result (Unit {0}) BatchError) (answers : List Answer) (count : ℕ) → OnOk result (length answers ≡ count) → IfErr result (λ _. answers ≡ []) → length answers ≤ count
answer_count (Ok unit) answers count each none = omega (arith, each)
answer_count (Err error) answers count each none = omega (arith, ap length none)

-- those of the calls that were answered
pub answers_fit : (c d : Calls) (result : Result (Unit {0}) BatchError) → IsSameTurn c d → HasNumbers (out_action_bytes c.named) (length (asks_in c) - length c.again.items)
    → OnOk result (length (answers_in d) ≡ length (asks_in c)) → IfErr result (λ _. answers_in d ≡ [])
    → HasNumbers (out_action_bytes d.named) (length (answers_in d) - length d.again.items)
answers_fit c d result same fits each none =
    let few = answer_count result (answers_in d) (length (asks_in c)) each none in
    let first : length d.again.items ≡ length c.again.items = λ i. length (same.again i).items in
    has_fewer (out_action_bytes d.named) (length (asks_in c) - length c.again.items) (length (answers_in d) - length d.again.items) (omega (arith, few, first))
    (subst (λ n. HasNumbers n (length (asks_in c) - length c.again.items)) (λ i. out_action_bytes (sym same.named i)) fits)

events_are : (c d : Calls) (calls : List (OutAction (List ℕ))) (result : Result (Unit {0}) BatchError) → IsSameTurn c d
    → calls ≡ calls_from c.again.items (out_action_bytes c.named) (length (asks_in c)) → OnOk result (length (answers_in d) ≡ length (asks_in c))
    → outcome_events d result ≡ sender_events calls (batch_outcome result (answers_in d))
events_are c d calls (Ok unit) same each answered =
    ap (λ l. sender_events l (Ok (answers_in d)))
    ((λ i. calls_from (same.again i).items (out_action_bytes (same.named i)) (answered i)) ∙ sym each)
events_are c d calls (Err error) same each answered = refl

coming_cases : (first : Option Answer) (others : List Answer) → cons_option first (reverse others) ≡ [] → cons_option first others ≡ []
coming_cases (Some answer) others none = absurd (cc)
coming_cases None others none = sym (reverse-reverse others) ∙ ap reverse none

-- once the last answer was taken there is none
pub coming_none : (c : Calls) → coming_in c ≡ [] → answers_in c ≡ []
coming_none c none = coming_cases c.answer c.answers.items none

-- the calls of a turn were submitted, and answered or not
pub turned_asked : (w : SenderWorker) (most : ℕ) (old mid called_at new : EndsView) (p between left : SenderState) (c d : Calls) (start : Go) (packets : List (List ℕ)) (heard : Go)
    (result : Result (Unit {0}) BatchError) (before after : Go)
    → HasRequested w most old mid p between c start packets heard → 0 < length (asks_in c)
    → TellsMore mid.asked called_at.asked ((asks_in c, batch_outcome result (answers_in d)) ∷ [])
    → TellsMore mid.handed called_at.handed ((worker.Sender w.hop, Call, before) ∷ (worker.Sender w.hop, Answered, after) ∷ [])
    → called_at ≡ record mid { asked = called_at.asked; handed = called_at.handed }
    → IsSameTurn c d → OnOk result (length (answers_in d) ≡ length (asks_in c))
    → HasHandedEvent (is_open w.plan w.hop after.now) after.since called_at new between left (outcome_events d result)
    → (given : Given) × (given.start ≡ start) × Did old new left (sender_done w most p given)
turned_asked w most old mid called_at new p between left c d start packets heard result before after h some asked around quiet same answered told =
    let made : Made = record { outcome = batch_outcome result (answers_in d); before = before; after = after } in
    let given : Given = record { start = start; packets = packets; heard = heard; made = made } in
    let calls = (sender_requests w most p packets heard).calls in
    let some_calls : 0 < length calls =
    omega (arith, some, ap length h.calls.each, length_calls c.again.items (out_action_bytes c.named) (length (asks_in c))) in
    let events = subst (HasHandedEvent (is_open w.plan w.hop after.now) after.since called_at new between left) (events_are c d calls result same h.calls.each answered) told in (
      given,
      refl,
      turned w most old mid new p between left c given h
          (called w mid called_at new heard.now made between left calls (asks_in c) (is_open w.plan w.hop after.now) some_calls h.calls.asks asked around quiet refl events),
    )

-- the effects of a sender of a hop that exists, or doesn't
abbrev sent_by : ContactPlan → Params → HopId → EndsView → EndsView → Option Neighbour → Type 0
sent_by plan params hop old new found =
    IfNone found (new ≡ old) × IfSome found (λ neighbour. (most : ℕ) × ((most ≡ 64) ⊎ (most ≡ 1)) × (turns : List Given)
    × Ran old new (worker.Sender hop)
    (done_in (sender_turn (sender_worker plan hop) most)
    (first_sender_state (sender (record { 0 = plan.station }) (record { 0 = neighbour.station }) params.window) params (resend plan hop) (rate plan hop)) turns))

pub has_sent : (plan : ContactPlan) (hop : HopId) (params : Params) (old new : EndsView) (neighbour : Neighbour) (most : ℕ) (turns : List Given)
    → Some neighbour ≡ next_hop_at plan hop → (most ≡ 64) ⊎ (most ≡ 1)
    → Ran old new (worker.Sender hop)
    (done_in (sender_turn (sender_worker plan hop) most)
    (first_sender_state (sender (record { 0 = plan.station }) (record { 0 = neighbour.station }) params.window) params (resend plan hop) (rate plan hop)) turns)
    → HasSent plan params hop old new
has_sent plan hop params old new neighbour most turns found which ran = subst (sent_by plan params hop old new) found (tt, (most, which, turns, ran))
