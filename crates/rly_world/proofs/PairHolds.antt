-- The invariant of two relays.
use Rattle.std.proofs.Common.{ℕ, ◌≡◌, ◌<◌, Bool, true, false, ◌==◌, nat_le, cond}
use Rattle.std.proofs.Common.{if◌then◌else◌, inl, inr, List, [], ◌∷◌, ◌++◌, length, map, set}
use Rattle.std.proofs.Common.{refl, arith, sym, ◌∙◌, ap, subst, Option, Some, None, append_assoc}
use Rattle.std.specs.Prelude.{slice_get, unwrap_or}
use Rattle.std.specs.List.{AllByRecursion}
use Rattle.std.proofs.lemmas.Bool.{cases_eq, eq-eqb, leb-true, ne_eqb}
use Rattle.std.proofs.lemmas.List.{append-nil, get_or-set_other, get_or-set_same}
use Rattle.std.proofs.lemmas.Option.{get_or_from_slice_get, slice_get_within, unwrap_or-slice_get}
use Rattle.rly_core.specs.declared.ids.HopId.{HopId}
use Rattle.rly_core.specs.declared.ids.PeerId.{PeerId}
use Rattle.rly_hop.specs.declared.message.Message.{Message}
use Rattle.rly_hop.specs.declared.receiving.event.InEvent.TheVariants as in_event
use Rattle.rly_hop.specs.declared.sending.event.OutEvent.{OutEvent}
use Rattle.rly_hop.specs.declared.sending.event.OutEvent.TheVariants as out_event
use Rattle.rly_hop.specs.Receiver.{Receiver}
use Rattle.rly_hop.specs.Receiving.{ReceivingResult, receiver, receiving_step}
use Rattle.rly_hop.specs.Sender.{Sender}
use Rattle.rly_hop.specs.Sending.{SendingResult, sending_step}
use Rattle.rly_machine.specs.declared.command.Ask.{Ask}
use Rattle.rly_machine.specs.declared.command.Ask.TheVariants as ask
use Rattle.rly_machine.specs.declared.command.Command.TheVariants.{Take, Pick, Release}
use Rattle.rly_machine.specs.declared.reply.Reply.{Reply}
use Rattle.rly_world.specs.PairCores.{is_for_receiver, is_for_sender, receiver_asks, receiver_sends, sender_asks}
use Rattle.rly_world.specs.PairCores.{sender_event, sender_sends, take_answer}
use Rattle.rly_world.specs.PairEnd.{Asked, End, Replied, with_asked, with_crash, with_made}
use Rattle.rly_world.specs.PairEnd.{with_other, end_after_answer}
use Rattle.rly_world.specs.PairPayloads.{Numbered}
use Rattle.rly_world.specs.PairWorld.{IsPair, PairEvent, PairSetup, PairWorld, Turns, Timeout, FetchesAhead, PicksAhead, UpperHears}
use Rattle.rly_world.specs.PairWorld.{LowerHears, UpperMakes, LowerMakes, UpperAnswers, LowerAnswers, UpperServes}
use Rattle.rly_world.specs.PairWorld.{LowerServes, UpperCrashes, LowerCrashes, lower_answers, lower_hears}
use Rattle.rly_world.specs.PairWorld.{new_receivers, new_sender, pair_after, pair_start, pair_step, receiver_answered}
use Rattle.rly_world.specs.PairWorld.{unless_failed, upper_answers, upper_hears, with_sender}
use Rattle.rly_world.proofs.PairCoreSteps.{IsSafe, IsSafeAsk, IsSafeEvent, IsSafeTake, IsTrueAnswer, answers_safely}
use Rattle.rly_world.proofs.PairCoreSteps.{event_later, hears_safely, numbers_in, safe_later}
use Rattle.rly_world.proofs.PairCoreSteps.{sends_safely, take_number, waiting}
use Rattle.rly_world.proofs.PairLists.{all_append, all_get, all_weaker, prefix_all}
use Rattle.rly_world.proofs.PairLower.{IsLower, answer_told, idle, kept_by, lower_crashed, lower_later}
use Rattle.rly_world.proofs.PairLower.{lower_made, lower_served, lower_told, new_cores, numbers_at, pending_at}
use Rattle.rly_world.proofs.PairLower as low
use Rattle.rly_world.proofs.PairRuns.{flows_from_new}
use Rattle.rly_world.proofs.PairUpper.{IsUpper, event_told, given_by, upper_crashed, upper_later, upper_made}
use Rattle.rly_world.proofs.PairUpper.{upper_served, upper_told}
use Rattle.rly_world.proofs.PairUpper as up

-- the datagrams that the upper has durably given and the lower has durably taken
abbrev given_in : PairWorld → List (Numbered (List ℕ))
given_in w = given_by w.setup.hop w.upper

abbrev kept_in : PairWorld → ℕ
kept_in w = kept_by w.setup.peer w.lower

-- each end keeps its invariant, and no packet has anything that either could lose
pub record Holds (w : PairWorld) : Type 0 where
  pub upper : IsUpper w.setup.hop (kept_by w.setup.peer w.lower) w.upper w.sender
  pub lower : IsLower w.setup.peer (given_by w.setup.hop w.upper) w.lower w.receivers
  pub packets : AllByRecursion (IsSafe (given_by w.setup.hop w.upper) (kept_by w.setup.peer w.lower)) w.packets

-- one end makes a step
upper_goes_on : (w : PairWorld) (e : End) (s : Sender) → Holds w → up.GoesOn w.setup.hop (kept_in w) s (given_in w) e
    → Holds (record w { upper = e; sender = s })
upper_goes_on w e s h on = record {
  upper = on.0;
  lower = lower_later w.setup.peer (given_in w) (given_by w.setup.hop e) w.lower w.receivers on.1 h.lower;
  packets = all_weaker (IsSafe (given_in w) (kept_in w)) (IsSafe (given_by w.setup.hop e) (kept_in w))
      (safe_later (given_in w) (given_by w.setup.hop e) (kept_in w) (kept_in w) on.1 (omega arith)) w.packets h.packets;
}

lower_goes_on : (w : PairWorld) (e : End) (receivers : List Receiver) → Holds w
    → low.GoesOn w.setup.peer (given_in w) receivers (kept_in w) e
    → Holds (record w { lower = e; receivers = receivers })
lower_goes_on w e receivers h on = record {
  upper = upper_later w.setup.hop (kept_in w) (kept_by w.setup.peer e) w.upper w.sender on.1 h.upper;
  lower = on.0;
  packets = all_weaker (IsSafe (given_in w) (kept_in w)) (IsSafe (given_in w) (kept_by w.setup.peer e))
      (safe_later (given_in w) (given_in w) (kept_in w) (kept_by w.setup.peer e)
      (prefix_all (given_in w)) on.1) w.packets h.packets;
}

-- safe messages are sent, or not
sent_safely : (given : List (Numbered (List ℕ))) (kept : ℕ) (is_sent : Bool) (messages : List (Message (List ℕ)))
    → AllByRecursion (IsSafe given kept) messages → AllByRecursion (IsSafe given kept) (unless_failed is_sent messages)
sent_safely given kept true messages safe = safe
sent_safely given kept false messages safe = tt

-- ---- the sending core

asked_safely : (hop : HopId) (kept core : ℕ) (asks : List Ask) → AllByRecursion (IsSafeAsk hop kept) asks
    → AllByRecursion (λ (c : Asked). IsSafeAsk hop kept c.ask)
    (map (λ (an : Ask). let c : Asked = record { core = core; ask = an } in c) asks)
asked_safely hop kept core [] safe = tt
asked_safely hop kept core (an ∷ asks) safe = (safe.0, asked_safely hop kept core asks safe.1)

sender_moves : (w : PairWorld) (moment : ℕ) (is_sent : Bool) (event : OutEvent (List ℕ)) → Holds w
    → IsSafeEvent (given_in w) (kept_in w) event → Holds (with_sender w moment is_sent (sending_step w.sender event))
sender_moves w moment is_sent event h safe =
    let sends = sends_safely (given_in w) (kept_in w) w.setup.hop moment w.sender event h.upper.acked safe in
    let result : SendingResult = sending_step w.sender event in
    let asks : List Ask = sender_asks w.setup.hop moment result.1 in
    record {
      upper = record {
        there = h.upper.there;
        told = h.upper.told;
        acked = sends.acked;
        asked = all_append (λ (c : Asked). IsSafeAsk w.setup.hop (kept_in w) c.ask) w.upper.asked _ h.upper.asked
            (asked_safely w.setup.hop (kept_in w) 0 asks sends.asks);
        replied = h.upper.replied;
        released = h.upper.released;
      };
      lower = h.lower;
      packets = all_append (IsSafe (given_in w) (kept_in w)) w.packets
          (unless_failed is_sent (sender_sends result.1)) h.packets
          (sent_safely (given_in w) (kept_in w) is_sent (sender_sends result.1) sends.sends);
    }

upper_hearing : (w : PairWorld) (k : ℕ) (o : Option (Message (List ℕ))) → slice_get w.packets k ≡ o → Holds w
    → Holds (upper_hears w o)
upper_hearing w k None is h = h
upper_hearing w k (Some m) is h = sender_moves w 0 true (out_event.Heard m) h
    (all_get (IsSafe (given_in w) (kept_in w)) w.packets k m h.packets is)

upper_answering : (w : PairWorld) (is_sent : Bool) (due : List Replied) → w.upper.replied ≡ due → Holds w
    → Holds (upper_answers w is_sent due)
upper_answering w is_sent [] is h = h
upper_answering w is_sent (r ∷ rest) is h =
    let replied : AllByRecursion (up.IsTrueReply w.setup.hop w.upper.params w.upper.accepted) (r ∷ rest) = subst
    (AllByRecursion (up.IsTrueReply w.setup.hop w.upper.params w.upper.accepted)) is h.upper.replied in
    let e : End = record w.upper { replied = rest } in
    let still : IsUpper w.setup.hop (kept_in w) (record w.upper { replied = rest }) w.sender =
    record {
      there = h.upper.there;
      told = h.upper.told;
      acked = h.upper.acked;
      asked = h.upper.asked;
      replied = replied.1;
      released = h.upper.released;
    } in
    let told = upper_told w.setup.hop (kept_in w) e w.sender r.reply r.position replied.0.position still in
    let after : PairWorld = record w { upper = end_after_answer e r.reply r.position } in
    let event : OutEvent (List ℕ) = sender_event r.call.ask r.reply in
    sender_moves after 0 is_sent event (upper_goes_on w (end_after_answer e r.reply r.position) w.sender h told)
    (event_later (given_in after) (given_in after) 0 (kept_in after) (prefix_all (given_in after)) (omega arith) event
    (event_told w.setup.hop e r replied.0))

-- ---- the receiving cores

taken_safely : (peer : PeerId) (given : List (Numbered (List ℕ))) (core : ℕ) (asks : List Ask)
    → AllByRecursion (IsSafeTake peer given) asks
    → AllByRecursion (λ (c : Asked). IsSafeTake peer given c.ask)
    (map (λ (an : Ask). let c : Asked = record { core = core; ask = an } in c) asks)
taken_safely peer given core [] safe = tt
taken_safely peer given core (an ∷ asks) safe = (safe.0, taken_safely peer given core asks safe.1)

numbers_append : (core : ℕ) (xs ys : List Asked) → numbers_at core (xs ++ ys) ≡ numbers_at core xs ++ numbers_at core ys
numbers_append core [] ys = refl
numbers_append core (c ∷ xs) ys =
    let first : List ℕ = if c.core == core then take_number c.ask else [] in
    ap (λ l. first ++ l) (numbers_append core xs ys)
    ∙ sym (append_assoc first (numbers_at core xs) (numbers_at core ys))

own_numbers : (core : ℕ) (asks : List Ask)
    → numbers_at core (map (λ (an : Ask). let c : Asked = record { core = core; ask = an } in c) asks) ≡ numbers_in asks
own_numbers core [] = refl
own_numbers core (an ∷ asks) =
    ap (λ b. cond b (take_number an) [] ++ numbers_at core
    (map (λ (an : Ask). let c : Asked = record { core = core; ask = an } in c) asks)) (eq-eqb core core refl)
    ∙ ap (λ l. take_number an ++ l) (own_numbers core asks)

other_numbers : (core other : ℕ) (asks : List Ask) → (core ≡ other → ⊥)
    → numbers_at other (map (λ (an : Ask). let c : Asked = record { core = core; ask = an } in c) asks) ≡ []
other_numbers core other [] differ = refl
other_numbers core other (an ∷ asks) differ =
    ap (λ b. cond b (take_number an) [] ++ numbers_at other
    (map (λ (an : Ask). let c : Asked = record { core = core; ask = an } in c) asks)) (ne_eqb core other differ)
    ∙ other_numbers core other asks differ

-- one core makes a step
own_pending : (receivers : List Receiver) (core : ℕ) (r : Receiver) → core < length receivers
    → pending_at (set receivers core r) core ≡ waiting r.pending
own_pending receivers core r within = ap (λ (x : Receiver). waiting x.pending)
    (get_or-set_same receivers core r idle within)

other_pending : (receivers : List Receiver) (core other : ℕ) (r : Receiver) → (core ≡ other → ⊥)
    → pending_at (set receivers core r) other ≡ pending_at receivers other
other_pending receivers core other r differ = ap (λ (x : Receiver). waiting x.pending)
    (get_or-set_other receivers core other r idle (λ same. differ (sym same)))

lower_hearing : (w : PairWorld) (k core : ℕ) (hop : HopId) (stamp : ℕ) (r : Option Receiver)
    (m : Option (Message (List ℕ))) → slice_get w.receivers core ≡ r → slice_get w.packets k ≡ m
    → Holds w → Holds (lower_hears w core hop stamp r m)
lower_hearing w k core hop stamp None m there is h = h
lower_hearing w k core hop stamp (Some r) None there is h = h
lower_hearing w k core hop stamp (Some r) (Some m) there is h =
    let hears = hears_safely (given_in w) (kept_in w) w.setup.peer hop stamp r m
    (all_get (IsSafe (given_in w) (kept_in w)) w.packets k m h.packets is) in
    let result : ReceivingResult = receiving_step r (in_event.Heard m) in
    let asks : List Ask = receiver_asks w.setup.peer hop stamp result.1 in
    let new : List Asked = map (λ (an : Ask). let c : Asked = record { core = core; ask = an } in c) asks in
    let shown : List Asked = map (λ (x : Replied). x.call) w.lower.replied in
    let within = slice_get_within w.receivers core r there in
    let here : pending_at w.receivers core ≡ waiting r.pending = ap (λ (x : Receiver). waiting x.pending)
    (get_or_from_slice_get w.receivers core r idle there) in
    let numbers : (other : ℕ)
    → numbers_at other (shown ++ (w.lower.asked ++ new)) ≡ pending_at w.receivers other ++ numbers_at other new =
    λ other. ap (numbers_at other) (sym (append_assoc shown w.lower.asked new))
    ∙ numbers_append other (shown ++ w.lower.asked) new
    ∙ ap (λ l. l ++ numbers_at other new) (h.lower.pending other) in
    record {
      upper = h.upper;
      lower = record {
        there = h.lower.there;
        told = h.lower.told;
        asked = all_append (λ (c : Asked). IsSafeTake w.setup.peer (given_in w) c.ask) w.lower.asked new h.lower.asked
            (taken_safely w.setup.peer (given_in w) core asks hears.asks);
        replied = h.lower.replied;
        pending = λ other. elim (cases_eq core other) [
          | inl same ↦ subst (λ (n : ℕ). numbers_at n (shown ++ (w.lower.asked ++ new)) ≡ pending_at
              (set w.receivers core result.0) n) same
              (numbers core ∙ ap (λ l. l ++ numbers_at core new) here
              ∙ ap (λ l. waiting r.pending ++ l) (own_numbers core asks) ∙ hears.pending
              ∙ sym (own_pending w.receivers core result.0 within))
          | inr differ ↦ numbers other
              ∙ ap (λ l. pending_at w.receivers other ++ l) (other_numbers core other asks differ)
              ∙ append-nil (pending_at w.receivers other)
              ∙ sym (other_pending w.receivers core other result.0 differ)
        ];
        order = h.lower.order;
      };
      packets = all_append (IsSafe (given_in w) (kept_in w)) w.packets (receiver_sends result.1) h.packets hears.sends;
    }

-- a core waits for the number of the Take with this reply, and for no other
waits_for : (o : Option ℕ) (number : ℕ) (rest : List ℕ) → number ∷ rest ≡ waiting o → (o ≡ Some number) × (rest ≡ [])
waits_for None number rest is = absurd (cc)
waits_for (Some n) number rest is =
    let first : number ≡ n = (cc) in
    let others : rest ≡ [] = (cc) in
    (ap (λ (x : ℕ). let o : Option ℕ = Some x in o) (sym first), others)

-- the Take with this reply
answered_take : (kept : ℕ) (an : Ask) (r : Reply) → low.IsTrueTake kept an r → (number : ℕ)
    × (take_number an ≡ number ∷ []) × IsTrueAnswer kept number (take_answer r)
answered_take kept (ask.Command (Take from number hop stamp limit payload)) r is = (number, refl, is)
answered_take kept (ask.Command (Pick hop now)) r is = absurd is
answered_take kept (ask.Command (Release hop number)) r is = absurd is
answered_take kept (ask.Query q) r is = absurd is

none_asked : (e : End) (core : ℕ) (asks : List Ask) → asks ≡ [] → with_asked e core asks ≡ e
none_asked e core asks none =
    let wait : Ask → Asked = λ an. record { core = core; ask = an } in
    ap (λ (l : List Ask). let x : End = record e { asked = e.asked ++ map wait l } in x) none
    ∙ ap (λ (l : List Asked). let x : End = record e { asked = l } in x) (append-nil e.asked)

-- the reply ends the wait of its core
pending_after : (receivers : List Receiver) (r : Replied) (it left : Receiver) (number : ℕ) (calls : List Asked)
    → slice_get receivers r.call.core ≡ Some it → take_number r.call.ask ≡ number ∷ []
    → ((core : ℕ) → numbers_at core (r.call ∷ calls) ≡ pending_at receivers core) → left.pending ≡ None
    → (it.pending ≡ Some number)
    × ((core : ℕ) → numbers_at core calls ≡ pending_at (set receivers r.call.core left) core)
pending_after receivers r it left number calls there asks pending none =
    let own : ℕ = r.call.core in
    let within = slice_get_within receivers r.call.core it there in
    let here : pending_at receivers r.call.core ≡ waiting it.pending = ap (λ (x : Receiver). waiting x.pending)
    (get_or_from_slice_get receivers r.call.core it idle there) in
    let first : number ∷ numbers_at own calls ≡ waiting it.pending =
    sym (ap (λ b. cond b (take_number r.call.ask) [] ++ numbers_at own calls) (eq-eqb own own refl)
    ∙ ap (λ l. l ++ numbers_at own calls) asks) ∙ pending own ∙ here in
    let waits = waits_for it.pending number (numbers_at own calls) first in (
      waits.0,
      λ core. elim (cases_eq own core) [
        | inl same ↦ subst (λ (n : ℕ). numbers_at n calls ≡ pending_at (set receivers own left) n) same
            (waits.1 ∙ sym (own_pending receivers own left within ∙ ap waiting none))
        | inr differ ↦ ap (λ b. cond b (take_number r.call.ask) [] ++ numbers_at core calls)
            (sym (ne_eqb own core differ)) ∙ pending core ∙ sym (other_pending receivers own core left differ)
      ],
    )

answered_by : (w : PairWorld) (is_sent : Bool) (r : Replied) (rest : List Replied) (o : Option Receiver)
    → slice_get w.receivers r.call.core ≡ o → w.lower.replied ≡ r ∷ rest → Holds w
    → Holds (receiver_answered
    (record w { lower = end_after_answer (record w.lower { replied = rest }) r.reply r.position }) r.call.core is_sent r o)
answered_by w is_sent r rest None there is h =
    let replied : AllByRecursion (low.IsTrueReply w.setup.peer w.lower.params w.lower.accepted) (r ∷ rest) = subst
    (AllByRecursion (low.IsTrueReply w.setup.peer w.lower.params w.lower.accepted)) is h.lower.replied in
    let take = answered_take _ r.call.ask r.reply replied.0.told in
    let own : ℕ = r.call.core in
    let calls : List Asked = map (λ (x : Replied). x.call) rest ++ w.lower.asked in
    let all : numbers_at own (r.call ∷ calls) ≡ pending_at w.receivers own =
    ap (λ (l : List Replied). numbers_at own (map (λ (x : Replied). x.call) l ++ w.lower.asked)) (sym is)
    ∙ h.lower.pending own in
    let missing : pending_at w.receivers own ≡ [] =
    ap (λ (x : Receiver). waiting x.pending)
    (sym (unwrap_or-slice_get w.receivers own idle) ∙ ap (λ (x : Option Receiver). unwrap_or x idle) there) in
    let some : take.0 ∷ numbers_at own calls ≡ [] =
    sym (ap (λ b. cond b (take_number r.call.ask) [] ++ numbers_at own calls) (eq-eqb own own refl)
    ∙ ap (λ l. l ++ numbers_at own calls) take.1) ∙ all ∙ missing in
    absurd (let e : (let l : List ℕ = take.0 ∷ numbers_at own calls in l) ≡ [] = some in cc)
answered_by w is_sent r rest (Some it) there is h =
    let replied : AllByRecursion (low.IsTrueReply w.setup.peer w.lower.params w.lower.accepted) (r ∷ rest) = subst
    (AllByRecursion (low.IsTrueReply w.setup.peer w.lower.params w.lower.accepted)) is h.lower.replied in
    let take = answered_take _ r.call.ask r.reply replied.0.told in
    let own : ℕ = r.call.core in
    let calls : List Asked = map (λ (x : Replied). x.call) rest ++ w.lower.asked in
    let all : (core : ℕ) → numbers_at core (r.call ∷ calls) ≡ pending_at w.receivers core =
    λ core. ap (λ (l : List Replied). numbers_at core (map (λ (x : Replied). x.call) l ++ w.lower.asked)) (sym is)
    ∙ h.lower.pending core in
    let no_hop : HopId = record { 0 = 0 } in
    let e : End = record w.lower { replied = rest } in
    let after : End = end_after_answer e r.reply r.position in
    let result : ReceivingResult = receiving_step it (in_event.Answered (take_answer r.reply)) in
    let waits = pending_after w.receivers r it (record it { pending = None }) take.0 calls there take.1 all refl in
    let truth = answer_told w.setup.peer e take.0 r.reply r.position take.2 in
    let answers = answers_safely (given_in w) (kept_by w.setup.peer after) w.setup.peer no_hop 0 it take.0
    (take_answer r.reply) waits.0 truth in
    let left = pending_after w.receivers r it result.0 take.0 calls there take.1 all answers.pending in
    let still : IsLower w.setup.peer (given_in w) (record w.lower { replied = rest }) (set w.receivers own result.0) =
    record {
      there = h.lower.there;
      told = h.lower.told;
      asked = h.lower.asked;
      replied = replied.1;
      pending = left.1;
      order = h.lower.order;
    } in
    let told = lower_told w.setup.peer (given_in w) e
    (set w.receivers own result.0) r.reply r.position replied.0.position still in
    let on = lower_goes_on w after (set w.receivers own result.0) h told in
    subst (λ (l : End). Holds
    (record w {
      lower = l;
      receivers = set w.receivers own result.0;
      packets = w.packets ++ unless_failed is_sent
          (receiver_sends result.1);
    }))
    (sym (none_asked after own (receiver_asks w.setup.peer no_hop 0 result.1) answers.asks))
    (record {
      upper = on.upper;
      lower = on.lower;
      packets = all_append (IsSafe (given_in w) (kept_by w.setup.peer after)) w.packets
          (unless_failed is_sent (receiver_sends result.1)) on.packets
          (sent_safely (given_in w) (kept_by w.setup.peer after) is_sent (receiver_sends result.1) answers.sends);
    })

lower_answering : (w : PairWorld) (is_sent : Bool) (due : List Replied) → w.lower.replied ≡ due → Holds w
    → Holds (lower_answers w is_sent due)
lower_answering w is_sent [] is h = h
lower_answering w is_sent (r ∷ rest) is h = answered_by w is_sent r rest (slice_get w.receivers r.call.core) refl is h

-- ---- every event

by_test : (b : Bool) (x y : PairWorld) → (b ≡ true → Holds x) → (b ≡ false → Holds y) → Holds (if b then x else y)
by_test true x y p q = p refl
by_test false x y p q = q refl

step_holds : (w : PairWorld) (event : PairEvent) → Holds w → Holds (pair_step w event)
step_holds w (Turns is_open moment) h = sender_moves w moment true (out_event.Turn is_open) h tt
step_holds w Timeout h = sender_moves w 0 true out_event.Timeout h tt
step_holds w (FetchesAhead number) h = record {
  upper = record {
    there = h.upper.there;
    told = h.upper.told;
    acked = h.upper.acked;
    asked = all_append (λ (c : Asked). IsSafeAsk w.setup.hop (kept_in w) c.ask) w.upper.asked _ h.upper.asked
        (refl, tt);
    replied = h.upper.replied;
    released = h.upper.released;
  };
  lower = h.lower;
  packets = h.packets;
}
step_holds w (PicksAhead moment) h = record {
  upper = record {
    there = h.upper.there;
    told = h.upper.told;
    acked = h.upper.acked;
    asked = all_append (λ (c : Asked). IsSafeAsk w.setup.hop (kept_in w) c.ask) w.upper.asked _ h.upper.asked
        (tt, tt);
    replied = h.upper.replied;
    released = h.upper.released;
  };
  lower = h.lower;
  packets = h.packets;
}
step_holds w (UpperHears packet) h = upper_hearing w packet (slice_get w.packets packet) refl h
step_holds w (LowerHears packet core hop stamp) h = lower_hearing w packet core hop stamp (slice_get w.receivers core)
    (slice_get w.packets packet) refl refl h
step_holds w (UpperMakes outcome) h =
    upper_goes_on w (with_made w.upper outcome w.upper.asked) w.sender h
    (upper_made w.setup.hop (kept_in w) w.upper w.sender outcome w.upper.asked refl h.upper)
step_holds w (LowerMakes outcome) h =
    lower_goes_on w (with_made w.lower outcome w.lower.asked) w.receivers h
    (lower_made w.setup.peer (given_in w) w.lower w.receivers outcome w.lower.asked refl h.lower)
step_holds w (UpperAnswers is_sent) h = upper_answering w is_sent w.upper.replied refl h
step_holds w (LowerAnswers is_sent) h = lower_answering w is_sent w.lower.replied refl h
step_holds w (UpperServes an outcome is_answered) h =
    by_test (is_for_sender w.setup.hop an) w (record w { upper = with_other w.upper an outcome is_answered }) (λ own. h)
    (λ other. upper_goes_on w (with_other w.upper an outcome is_answered) w.sender h
    (upper_served w.setup.hop (kept_in w) w.upper w.sender an outcome is_answered other h.upper))
step_holds w (LowerServes an outcome is_answered) h =
    by_test (is_for_receiver w.setup.peer an) w (record w { lower = with_other w.lower an outcome is_answered })
    (λ own. h)
    (λ other. lower_goes_on w (with_other w.lower an outcome is_answered) w.receivers h
    (lower_served w.setup.peer (given_in w) w.lower w.receivers an outcome is_answered other h.lower))
step_holds w (UpperCrashes kept opens) h =
    by_test (nat_le w.upper.told kept)
    (record w { upper = with_crash w.upper kept opens; sender = new_sender w.setup }) w
    (λ within. upper_goes_on w (with_crash w.upper kept opens) (new_sender w.setup) h
    (upper_crashed w.setup.hop (kept_in w) w.upper w.sender (new_sender w.setup) kept opens
    (leb-true w.upper.told kept within) refl h.upper))
    (λ lost. h)
step_holds w (LowerCrashes kept opens) h =
    by_test (nat_le w.lower.told kept)
    (record w { lower = with_crash w.lower kept opens; receivers = new_receivers w.setup }) w
    (λ within. lower_goes_on w (with_crash w.lower kept opens) (new_receivers w.setup) h
    (lower_crashed w.setup.peer (given_in w) w.lower w.receivers w.setup.receivers
    (receiver w.setup.lower w.setup.upper) kept opens (leb-true w.lower.told kept within) refl h.lower))
    (λ lost. h)

start_holds : (setup : PairSetup) → IsPair setup → Holds (pair_start setup)
start_holds setup pair =
    let none = flows_from_new length setup.upper_params [] setup.hop pair.hop in
    record {
      upper = record {
        there = pair.hop;
        told = omega arith;
        acked = tt;
        asked = tt;
        replied = tt;
        released = omega
            (arith, none.within);
      };
      lower = record {
        there = pair.peer;
        told = omega arith;
        asked = tt;
        replied = tt;
        pending = λ core. sym (new_cores setup.receivers core (receiver setup.lower setup.upper) refl);
        order = (given_in (pair_start setup), refl);
      };
      packets = tt;
    }

all_hold : (w : PairWorld) (events : List PairEvent) → Holds w → Holds (pair_after w events)
all_hold w [] h = h
all_hold w (event ∷ events) h = all_hold (pair_step w event) events (step_holds w event h)

pub pair_holds : (setup : PairSetup) (events : List PairEvent) → IsPair setup
    → Holds (pair_after (pair_start setup) events)
pair_holds setup events pair = all_hold (pair_start setup) events (start_holds setup pair)
