-- A receiving worker within a turn.
use Rattle.std.proofs.Common.{◌≡◌, ◌∙◌, ◌≤◌, ◌<◌, ◌+◌, ◌++◌, ℕ, Bool, List, [], ◌∷◌, ap, arith, false, inl, inr, length, map, refl, reverse, subst, suc, sym, true, vec_capacity}
use Rattle.std.specs.Prelude.{◌==◌, ◌⊎◌, fold, max, nat_lt, if◌then◌else◌, Option, Some, None, Result, Ok, Err, IfErr, IfNone, IfSome}
use Rattle.std.specs.List.{filter_map, flat_map, reduce, zip}
use Rattle.std.proofs.lemmas.Bool.Decides.{nat_tests}
use Rattle.std.proofs.lemmas.Grind.{flat_map-append}
use Rattle.std.proofs.lemmas.List.{append-nil, append_assoc, length-append, map-append, reverse-append, take_all}
use Rattle.std.proofs.lemmas.List.Elements.{filter_map-append}
use Rattle.rly_hop.specs.declared.message.Message.{Message}
use Rattle.rly_hop.specs.declared.message.StationId.{StationId}
use Rattle.rly_core.specs.declared.ids.PeerId.{PeerId}
use Rattle.rly_hop.specs.Receiver.{Receiver}
use Rattle.rly_hop.specs.Receiving.{receiver}
use Rattle.rly_line.specs.declared.call_error.BatchError.{BatchError}
use Rattle.rly_machine.specs.declared.call.Answer.{Answer}
use Rattle.rly_plan.specs.ContactPlan.{ContactPlan, peer_at}
use Rattle.rly_plan.specs.declared.neighbour.Neighbour.{Neighbour}
use Rattle.rly_threads_workers.specs.declared.receiver.Takes.{Takes}
use Rattle.rly_link.specs.declared.turn.Go.{Go}
use Rattle.rly_link.specs.declared.turn.Point.TheVariants as point
use Rattle.rly_link.specs.declared.turn.Worker.TheVariants as worker
use Rattle.rly_threads_workers.specs.DeskExchanges.{BatchOutcome, batch_outcome}
use Rattle.rly_link.specs.LinkHistory.{Handed, TellsMore, new_hearing, message_in}
use Rattle.rly_threads_workers.specs.HelpersTurns.{Did, HasAnswered, HasGathered, HasMore, HasTakeRoom, greater}
use Rattle.rly_threads_workers.specs.ReceiverTurns.{Arrival, Arrivals, ReceiverWorker, WaitingCore, NamedTake, answers_to_cores, answers_sent, around_takes, custody_in, custody_packets, hearings, receiver_worker, receiver_done, receiver_event, receiver_turn, is_taken, lacks_memory, action_on_answer, receives, refusal_packets, take_of, takes_asked, takes_done, core_of_take, wakings, takes_of_packet, wanted_by}
use Rattle.rly_threads_workers.specs.Runs.{EndsView, Ran}
use Rattle.rly_link.specs.declared.link.Sleep.{Sleep}
use Rattle.rly_link.specs.declared.link.Sleep.TheVariants.{No, Woken}
use Rattle.rly_threads_workers.specs.Turns.{done_in, sleep_at, woken_if}
use Rattle.rly_threads_workers.specs.WorkerRuns.{HasReceived}
use Rattle.rly_threads_workers.proofs.Grown.{nowhere, tells_more, tells_nothing}

-- the packet of a receive that returned one
abbrev pub gave : Arrival → Option (List ℕ) × Go
gave a = (Some a.packet, a.heard)

-- so far: these packets were received
pub record Gathering (w : ReceiverWorker) (r : Receiver) (old now : EndsView) (before after : Takes) (place : ℕ) : Type 0 where
  pub packets : List Arrival
  pub count : length packets ≡ place
  pub heard : TellsMore old.heard now.heard (hearings (map gave packets))
  pub handed : TellsMore old.handed now.handed (map (λ x. (worker.Receiver w.peer, point.Heard, x.1)) (map gave packets))
  pub same : now ≡ record old { heard = now.heard; handed = now.handed }
  pub more : HasMore before after (flat_map (takes_of_packet w before.most r) packets)

pub gathering_none : (w : ReceiverWorker) (r : Receiver) (told : EndsView) (takes : Takes) → Gathering w r told told takes takes 0
gathering_none w r told takes = record {
  packets = [];
  count = refl;
  heard = tells_nothing told.heard;
  handed = tells_nothing told.handed;
  same = refl;
  more = record { most = refl; asks = sym (append-nil takes.asks.items); waits = sym (append-nil takes.waiting.items) };
}

is_later : (n : ℕ) → (suc n == 0) ≡ false
is_later n = grind (arith, nat_tests)

-- the first receive waits, and one after others doesn't
hearings_more : (xs : List (Option (List ℕ) × Go)) (x : Option (List ℕ) × Go) (sleep : Sleep) → sleep ≡ sleep_at (length xs) Woken
    → hearings (xs ++ x ∷ []) ≡ hearings xs ++ new_hearing sleep x.0 ∷ []
hearings_more [] x sleep e = ap (λ b. new_hearing b x.0 ∷ []) (sym e)
hearings_more (y ∷ ys) x sleep e =
    let no : sleep ≡ No = e ∙ ap (λ b. if b then Woken else No) (is_later (length ys)) in
    ap (λ l. new_hearing Woken y.0 ∷ l) (map-append (λ (z : Option (List ℕ) × Go). new_hearing No z.0) ys (x ∷ []))
    ∙ ap (λ b. new_hearing Woken y.0 ∷ (map (λ (z : Option (List ℕ) × Go). new_hearing No z.0) ys ++ new_hearing b x.0 ∷ [])) (sym no)

map_length : {A B : Type 0} (f : A → B) (xs : List A) → length (map f xs) ≡ length xs
map_length f [] = refl
map_length f (x ∷ xs) = ap suc (map_length f xs)

more_after : (before mid after : Takes) (a b : List NamedTake) → HasMore before mid a → HasMore mid after b → HasMore before after (a ++ b)
more_after before mid after a b first next = record {
  most = next.most ∙ first.most;
  asks =
      next.asks ∙ ap (λ l. l ++ map (λ x. x.ask) b) first.asks ∙ append_assoc before.asks.items (map (λ x. x.ask) a) (map (λ x. x.ask) b)
      ∙ ap (λ l. before.asks.items ++ l) (sym (map-append (λ (x : NamedTake). x.ask) a b));
  waits =
      next.waits ∙ ap (λ l. l ++ map core_of_take b) first.waits ∙ append_assoc before.waiting.items (map core_of_take a) (map core_of_take b)
      ∙ ap (λ l. before.waiting.items ++ l) (sym (map-append core_of_take a b));
}

flat_one : {X A : Type 0} (f : X → List A) (xs : List X) (x : X) → flat_map f (xs ++ x ∷ []) ≡ flat_map f xs ++ f x
flat_one f xs x = flat_map-append f xs (x ∷ []) ∙ ap (λ l. flat_map f xs ++ l) (append-nil (f x))

-- one more packet was received
pub gathering_more : (w : ReceiverWorker) (r : Receiver) (old mid now : EndsView) (before takes after : Takes) (place : ℕ) (a : Arrival) (sleep : Sleep)
    → Gathering w r old mid before takes place → sleep ≡ sleep_at place Woken
    → TellsMore mid.heard now.heard (new_hearing sleep (Some a.packet) ∷ []) → TellsMore mid.handed now.handed ((worker.Receiver w.peer, point.Heard, a.heard) ∷ [])
    → now ≡ record mid { heard = now.heard; handed = now.handed } → HasMore takes after (takes_of_packet w before.most r a)
    → Gathering w r old now before after (place + 1)
gathering_more w r old mid now before takes after place a sleep g first heard handed same more =
    let at : (Option (List ℕ) × Go) → Handed = λ x. (worker.Receiver w.peer, point.Heard, x.1) in
    let first_is : sleep ≡ sleep_at (length (map gave g.packets)) Woken = first ∙ ap (λ n. sleep_at n Woken) (sym (map_length gave g.packets ∙ g.count)) in
    let all : map gave (g.packets ++ a ∷ []) ≡ map gave g.packets ++ gave a ∷ [] = map-append gave g.packets (a ∷ []) in
    let hears : hearings (map gave (g.packets ++ a ∷ [])) ≡ hearings (map gave g.packets) ++ new_hearing sleep (Some a.packet) ∷ [] =
    ap hearings all ∙ hearings_more (map gave g.packets) (gave a) sleep first_is in
    let hands : map at (map gave (g.packets ++ a ∷ [])) ≡ map at (map gave g.packets) ++ at (gave a) ∷ [] =
    ap (map at) all ∙ map-append at (map gave g.packets) (gave a ∷ []) in
    record {
      packets = g.packets ++ a ∷ [];
      count = omega (arith, length-append g.packets (a ∷ []), g.count);
      heard = subst (TellsMore old.heard now.heard) (sym hears) (tells_more old.heard mid.heard now.heard _ _ g.heard heard);
      handed = subst (TellsMore old.handed now.handed) (sym hands) (tells_more old.handed mid.handed now.handed _ _ g.handed handed);
      same = same ∙ (λ i. record (g.same i) { heard = now.heard; handed = now.handed });
      more = subst (HasMore before after) (sym (flat_one (takes_of_packet w before.most r) g.packets a)) (more_after before takes after _ _ g.more more);
    }

lt_true : (a b : ℕ) → a < b → nat_lt a b ≡ true
lt_true a b h = grind (arith, nat_tests)

lt_false : (a b : ℕ) → b ≤ a → nat_lt a b ≡ false
lt_false a b h = grind (arith, nat_tests)

-- a receive returned nothing
pub gathering_quiet : (w : ReceiverWorker) (r : Receiver) (old mid now : EndsView) (before takes : Takes) (place : ℕ) (quiet : Go) (sleep : Sleep)
    → Gathering w r old mid before takes place → place < before.most → sleep ≡ sleep_at place Woken
    → TellsMore mid.heard now.heard (new_hearing sleep None ∷ []) → TellsMore mid.handed now.handed ((worker.Receiver w.peer, point.Heard, quiet) ∷ [])
    → now ≡ record mid { heard = now.heard; handed = now.handed }
    → (packets : List Arrival) × (quiet : Go) × HasGathered w r old now before takes packets quiet
gathering_quiet w r old mid now before takes place quiet sleep g below first heard handed same =
    let at : (Option (List ℕ) × Go) → Handed = λ x. (worker.Receiver w.peer, point.Heard, x.1) in
    let first_is : sleep ≡ sleep_at (length (map gave g.packets)) Woken = first ∙ ap (λ n. sleep_at n Woken) (sym (map_length gave g.packets ∙ g.count)) in
    let fewer : length g.packets < before.most = omega (arith, g.count, below) in
    let all : receives before.most g.packets quiet ≡ map gave g.packets ++ (None, quiet) ∷ [] =
    ap (λ b. map gave g.packets ++ (if b then (None, quiet) ∷ [] else [])) (lt_true (length g.packets) before.most fewer) in
    let hears : hearings (receives before.most g.packets quiet) ≡ hearings (map gave g.packets) ++ new_hearing sleep None ∷ [] =
    ap hearings all ∙ hearings_more (map gave g.packets) (None, quiet) sleep first_is in
    let hands : map at (receives before.most g.packets quiet) ≡ map at (map gave g.packets) ++ (worker.Receiver w.peer, point.Heard, quiet) ∷ [] =
    ap (map at) all ∙ map-append at (map gave g.packets) ((None, quiet) ∷ []) in (
      g.packets,
      quiet,
      record {
        few = omega (arith, fewer);
        heard = subst (TellsMore old.heard now.heard) (sym hears) (tells_more old.heard mid.heard now.heard _ _ g.heard heard);
        handed = subst (TellsMore old.handed now.handed) (sym hands) (tells_more old.handed mid.handed now.handed _ _ g.handed handed);
        same = same ∙ (λ i. record (g.same i) { heard = now.heard; handed = now.handed });
        more = g.more;
      },
    )

-- the maximum of packets was received
pub gathering_full : (w : ReceiverWorker) (r : Receiver) (old now : EndsView) (before takes : Takes) (place : ℕ)
    → Gathering w r old now before takes place → place ≡ before.most
    → (packets : List Arrival) × (quiet : Go) × HasGathered w r old now before takes packets quiet
gathering_full w r old now before takes place g end =
    let at : (Option (List ℕ) × Go) → Handed = λ x. (worker.Receiver w.peer, point.Heard, x.1) in
    let full : length g.packets ≡ before.most = g.count ∙ end in
    let all : receives before.most g.packets nowhere ≡ map gave g.packets =
    ap (λ b. map gave g.packets ++ (if b then (None, nowhere) ∷ [] else [])) (lt_false (length g.packets) before.most (omega (arith, full)))
    ∙ append-nil (map gave g.packets) in (
      g.packets,
      nowhere,
      record {
        few = omega (arith, full);
        heard = subst (TellsMore old.heard now.heard) (sym (ap hearings all)) g.heard;
        handed = subst (TellsMore old.handed now.handed) (sym (ap (map at) all)) g.handed;
        same = g.same;
        more = g.more;
      },
    )

-- a packet leads to one Take at most
one_unless : (w : NamedTake) (lacks : Bool) → length (if lacks then [] else w ∷ []) ≤ 1
one_unless w true = omega arith
one_unless w false = omega arith

take_one : (w : ReceiverWorker) (station : StationId) (most now : ℕ) (refused : Bool) (core : Receiver) (taken : Option (ℕ × ℕ × List ℕ))
    → length (take_of w station most now refused core taken) ≤ 1
take_one w station most now refused core None = omega arith
take_one w station most now refused core (Some taken) = one_unless _ (lacks_memory most taken.2 refused)

pub one_at_most : (w : ReceiverWorker) (most : ℕ) (r : Receiver) (now : ℕ) (refused : Bool) (m : Option (Message (List ℕ))) → length (wanted_by w most r now refused m) ≤ 1
one_at_most w most r now refused m = take_one w r.peer most now refused _ _

-- no more Takes than packets
wanted_few : (w : ReceiverWorker) (most : ℕ) (r : Receiver) (packets : List Arrival) → length (flat_map (takes_of_packet w most r) packets) ≤ length packets
wanted_few w most r [] = omega arith
wanted_few w most r (a ∷ packets) =
    omega (
      arith,
      length-append (takes_of_packet w most r a) (flat_map (takes_of_packet w most r) packets),
      one_at_most w most r a.heard.now a.refused (message_in (Some a.packet)),
      wanted_few w most r packets,
    )

few_most : (most : ℕ) (a b c : Type 0) → ((most ≡ 64) × a × b × c) ⊎ (most ≡ 1) → most ≤ 64
few_most most a b c (inl room) = omega (arith, room.0)
few_most most a b c (inr one) = omega (arith, one)

pub few_asks : (w : ReceiverWorker) (r : Receiver) (old new : EndsView) (before after : Takes) (packets : List Arrival) (quiet : Go)
    → HasTakeRoom before → before.asks.items ≡ [] → HasGathered w r old new before after packets quiet → length after.asks.items ≤ 64
few_asks w r old new before after packets quiet room none g =
    let takes = flat_map (takes_of_packet w before.most r) packets in
    omega (
      arith,
      ap length g.more.asks,
      ap length none,
      length-append before.asks.items (map (λ (x : NamedTake). x.ask) takes),
      map_length (λ (x : NamedTake). x.ask) takes,
      wanted_few w before.most r packets,
      g.few,
      few_most before.most (64 ≤ vec_capacity before.asks) (64 ≤ vec_capacity before.waiting) (64 ≤ vec_capacity before.answers) room,
    )

pub fewer_after : (before after : Takes) (more : List NamedTake) (place : ℕ) → HasMore before after more → length more ≤ 1 → length before.asks.items ≤ place → length after.asks.items ≤ place + 1
fewer_after before after more place h one few =
    omega (arith, ap length h.asks, length-append before.asks.items (map (λ (x : NamedTake). x.ask) more), map_length (λ (x : NamedTake). x.ask) more, one, few)

-- so far: these were answered
pub record Answering (old now : EndsView) (all left : List WaitingCore) (answers coming : List Answer) (custody : Option ℕ) : Type 0 where
  pub done : List (WaitingCore × Answer)
  pub waits : all ≡ map (λ x. x.0) done ++ left
  pub given : answers ≡ map (λ x. x.1) done ++ coming
  pub sent : TellsMore old.sent now.sent (flat_map (λ x. refusal_packets (action_on_answer x)) done)
  pub woken : TellsMore old.woken now.woken (wakings done)
  pub same : now ≡ record old { sent = now.sent; woken = now.woken }
  pub greatest : custody ≡ reduce max (filter_map (λ x. custody_in (action_on_answer x)) done)

pub answering_none : (told : EndsView) (all left : List WaitingCore) (answers coming : List Answer) → all ≡ left → answers ≡ coming
    → Answering told told all left answers coming None
answering_none told all left answers coming waits given = record {
  done = [];
  waits = waits;
  given = given;
  sent = tells_nothing told.sent;
  woken = tells_nothing told.woken;
  same = refl;
  greatest = refl;
}

-- the greatest of numbers, and one more
fold_more : (a : ℕ) (ns : List ℕ) (n : ℕ) → fold max a (ns ++ n ∷ []) ≡ max (fold max a ns) n
fold_more a [] n = refl
fold_more a (m ∷ ns) n = fold_more (max a m) ns n

greatest_more : (ns : List ℕ) (n : ℕ) → reduce max (ns ++ n ∷ []) ≡ greater (reduce max ns) (Some n)
greatest_more [] n = refl
greatest_more (m ∷ ns) n = ap Some (fold_more m ns n)

greater_none : (last : Option ℕ) → greater last None ≡ last
greater_none None = refl
greater_none (Some last) = refl

custody_more : (last : List ℕ) (custody : Option ℕ) (after : List ℕ) → after ≡ last ++ filter_map (λ x. x) (custody ∷ []) → reduce max after ≡ greater (reduce max last) custody
custody_more last None after e = ap (reduce max) (e ∙ append-nil last) ∙ sym (greater_none (reduce max last))
custody_more last (Some n) after e = ap (reduce max) e ∙ greatest_more last n

-- one more was answered
pub answering_more : (old mid now : EndsView) (all left rest : List WaitingCore) (answers coming next : List Answer) (last custody after : Option ℕ)
    (x : WaitingCore) (answer : Answer) → Answering old mid all left answers coming last → left ≡ x ∷ rest → coming ≡ answer ∷ next
    → TellsMore mid.sent now.sent (refusal_packets (action_on_answer (x, answer)))
    → TellsMore mid.woken now.woken (woken_if (is_taken (receiver_event answer.reply)) x.1)
    → now ≡ record mid { sent = now.sent; woken = now.woken } → custody ≡ custody_in (action_on_answer (x, answer)) → after ≡ greater last custody
    → Answering old now all rest answers next after
answering_more old mid now all left rest answers coming next last custody after x answer a lefts comes sent woken same names greater_is =
    let one : WaitingCore × Answer = (x, answer) in
    let wakes = λ (y : WaitingCore × Answer). woken_if (is_taken (receiver_event y.1.reply)) y.0.1 in
    let sends = λ (y : WaitingCore × Answer). refusal_packets (action_on_answer y) in
    let keeps = λ (y : WaitingCore × Answer). custody_in (action_on_answer y) in
    record {
      done = a.done ++ one ∷ [];
      waits =
          a.waits ∙ ap (λ l. map (λ (y : WaitingCore × Answer). y.0) a.done ++ l) lefts
          ∙ sym (append_assoc (map (λ (y : WaitingCore × Answer). y.0) a.done) (x ∷ []) rest)
          ∙ ap (λ l. l ++ rest) (sym (map-append (λ (y : WaitingCore × Answer). y.0) a.done (one ∷ [])));
      given =
          a.given ∙ ap (λ l. map (λ (y : WaitingCore × Answer). y.1) a.done ++ l) comes
          ∙ sym (append_assoc (map (λ (y : WaitingCore × Answer). y.1) a.done) (answer ∷ []) next)
          ∙ ap (λ l. l ++ next) (sym (map-append (λ (y : WaitingCore × Answer). y.1) a.done (one ∷ [])));
      sent = subst (TellsMore old.sent now.sent) (sym (flat_one sends a.done one)) (tells_more old.sent mid.sent now.sent _ _ a.sent sent);
      woken = subst (TellsMore old.woken now.woken) (sym (flat_one wakes a.done one)) (tells_more old.woken mid.woken now.woken _ _ a.woken woken);
      same = same ∙ (λ i. record (a.same i) { sent = now.sent; woken = now.woken });
      greatest =
          greater_is ∙ (λ i. greater (a.greatest i) (names i))
          ∙ sym (custody_more (filter_map keeps a.done) (keeps one) (filter_map keeps (a.done ++ one ∷ [])) (filter_map-append keeps a.done (one ∷ [])));
    }

-- each waiting core and its answer
zipped : (done : List (WaitingCore × Answer)) → zip (map (λ x. x.0) done) (map (λ x. x.1) done) ≡ done
zipped [] = refl
zipped (x ∷ done) = ap (λ l. x ∷ l) (zipped done)

zip_nothing : (waits : List WaitingCore) → zip {X = Answer} waits [] ≡ []
zip_nothing [] = refl
zip_nothing (x ∷ waits) = refl

none_of : {A : Type 0} (l : List A) → length l ≡ 0 → l ≡ []
none_of [] e = refl
none_of (x ∷ l) e = absurd (omega (arith, e))

-- all were answered
all_answered : (all left : List WaitingCore) (answers coming : List Answer) (done : List (WaitingCore × Answer))
    → all ≡ map (λ x. x.0) done ++ left → answers ≡ map (λ x. x.1) done ++ coming → left ≡ [] → coming ≡ [] → zip all answers ≡ done
all_answered all left answers coming done waits given none_left none_coming =
    let waited : all ≡ map (λ x. x.0) done =
    waits ∙ ap (λ l. map (λ (x : WaitingCore × Answer). x.0) done ++ l) none_left ∙ append-nil (map (λ (x : WaitingCore × Answer). x.0) done) in
    let gave : answers ≡ map (λ x. x.1) done =
    given ∙ ap (λ l. map (λ (x : WaitingCore × Answer). x.1) done ++ l) none_coming ∙ append-nil (map (λ (x : WaitingCore × Answer). x.1) done) in
    (λ i. zip (waited i) (gave i)) ∙ zipped done

-- or none
none_answered : (all : List WaitingCore) (answers coming : List Answer) (done : List (WaitingCore × Answer))
    → answers ≡ map (λ x. x.1) done ++ coming → answers ≡ [] → zip all answers ≡ done
none_answered all answers coming [] given none = ap (zip all) none ∙ zip_nothing all
none_answered all answers coming (x ∷ done) given none = absurd (omega (arith, ap length given, ap length none))

both_none : (all left : List WaitingCore) (answers coming : List Answer) (done : List (WaitingCore × Answer))
    → all ≡ map (λ x. x.0) done ++ left → answers ≡ map (λ x. x.1) done ++ coming → length answers ≡ length all
    → (left ≡ []) ⊎ (coming ≡ []) → zip all answers ≡ done
both_none all left answers coming done waits given each ended =
    let a = map (λ (x : WaitingCore × Answer). x.0) done in
    let b = map (λ (x : WaitingCore × Answer). x.1) done in
    let both : length left ≡ length coming = omega (
      arith,
      each,
      ap length waits,
      ap length given,
      length-append a left,
      length-append b coming,
      map_length (λ (x : WaitingCore × Answer). x.0) done,
      map_length (λ (x : WaitingCore × Answer). x.1) done,
    ) in
    elim ended [
      | inl l ↦ all_answered all left answers coming done waits given l (none_of coming (omega (arith, both, ap length l)))
      | inr c ↦ all_answered all left answers coming done waits given (none_of left (omega (arith, both, ap length c))) c
    ]

all_or_none : (all left : List WaitingCore) (answers coming : List Answer) (done : List (WaitingCore × Answer))
    → all ≡ map (λ x. x.0) done ++ left → answers ≡ map (λ x. x.1) done ++ coming → (answers ≡ []) ⊎ (length answers ≡ length all)
    → (left ≡ []) ⊎ (coming ≡ []) → zip all answers ≡ done
all_or_none all left answers coming done waits given (inl none) ended = none_answered all answers coming done given none
all_or_none all left answers coming done waits given (inr each) ended = both_none all left answers coming done waits given each ended

-- after the last answer the greatest of the custodies is sent
pub answering_all : (r : Receiver) (old mid now : EndsView) (all left : List WaitingCore) (answers coming : List Answer) (last : Option ℕ)
    → Answering old mid all left answers coming last → (answers ≡ []) ⊎ (length answers ≡ length all) → (left ≡ []) ⊎ (coming ≡ [])
    → TellsMore mid.sent now.sent (custody_packets r last) → now ≡ record mid { sent = now.sent } → HasAnswered r old now (zip all answers)
answering_all r old mid now all left answers coming last a each ended sent same =
    let whole = all_or_none all left answers coming a.done a.waits a.given each ended in
    let sends : TellsMore old.sent now.sent (answers_sent r a.done) =
    tells_more old.sent mid.sent now.sent _ _ a.sent (subst (λ l. TellsMore mid.sent now.sent (custody_packets r l)) a.greatest sent) in
    let wakes : TellsMore old.woken now.woken (wakings a.done) = subst (λ h. TellsMore old.woken h (wakings a.done)) (sym (ap (λ t. t.woken) same)) a.woken in
    subst (HasAnswered r old now) (sym whole) (record {
      sent = sends;
      woken = wakes;
      same = same ∙ (λ i. record (a.same i) { sent = now.sent; woken = sym (ap (λ t. t.woken) same) i });
    })

answered_is : (result : Result (Unit {0}) BatchError) (waits : List WaitingCore) (answers : List Answer)
    → IfErr result (λ _. answers ≡ []) → zip waits answers ≡ answers_to_cores waits (batch_outcome result answers)
answered_is (Ok _) waits answers none = refl
answered_is (Err error) waits answers none = ap (zip waits) none ∙ zip_nothing waits

-- there is a Take
asked_some : (takes : List NamedTake) (outcome : BatchOutcome) → 0 < length takes → takes_asked takes outcome ≡ (map (λ x. x.ask) takes, outcome) ∷ []
asked_some [] outcome some = absurd (omega (arith, some))
asked_some (x ∷ takes) outcome some = refl

around_some : (w : ReceiverWorker) (takes : List NamedTake) (before after : Go) → 0 < length takes
    → around_takes w takes before after ≡ (worker.Receiver w.peer, point.Call, before) ∷ (worker.Receiver w.peer, point.Answered, after) ∷ []
around_some w [] before after some = absurd (omega (arith, some))
around_some w (x ∷ takes) before after some = refl

-- no packet led to a Take
pub turned_none : (w : ReceiverWorker) (r : Receiver) (old now : EndsView) (before after : Takes) (packets : List Arrival) (quiet : Go)
    → HasGathered w r old now before after packets quiet → before.asks.items ≡ [] → after.asks.items ≡ []
    → (given : Arrivals) × Did old now r (receiver_done w before.most r given)
turned_none w r old now before after packets quiet g none_before none_after =
    let given : Arrivals = record { start = nowhere; packets = packets; quiet = quiet; before = nowhere; outcome = Ok []; after = nowhere } in
    let takes = flat_map (takes_of_packet w before.most r) packets in
    let asks : [] ≡ map (λ (x : NamedTake). x.ask) takes = sym none_after ∙ g.more.asks ∙ ap (λ l. l ++ map (λ (x : NamedTake). x.ask) takes) none_before in
    let none : takes ≡ [] = none_of takes (omega (arith, ap length asks, map_length (λ (x : NamedTake). x.ask) takes)) in
    let heard = receives before.most packets quiet in
    let at : (Option (List ℕ) × Go) → Handed = λ x. (worker.Receiver w.peer, point.Heard, x.1) in
    let hands : List Handed = map at heard in
    let did : Did old now r (takes_done w r heard [] given) = record {
      left = refl;
      heard = g.heard;
      sent = subst (λ s. TellsMore old.sent s []) (sym (ap (λ t. t.sent) g.same)) (tells_nothing old.sent);
      asked = subst (λ a. TellsMore old.asked a []) (sym (ap (λ t. t.asked) g.same)) (tells_nothing old.asked);
      handed = subst (TellsMore old.handed now.handed) (sym (append-nil hands)) g.handed;
      woken = subst (λ w. TellsMore old.woken w []) (sym (ap (λ t. t.woken) g.same)) (tells_nothing old.woken);
    } in (
      given,
      subst (λ ps. Did old now r (takes_done w r (receives before.most ps quiet) (flat_map (takes_of_packet w before.most r) ps) given)) (sym (take_all before.most packets g.few))
          (subst (λ ts. Did old now r (takes_done w r heard ts given)) (sym none) did),
    )

-- the Takes of packets were submitted, and answered or not
pub turned_asked : (w : ReceiverWorker) (r : Receiver) (old mid called now : EndsView) (before after : Takes) (packets : List Arrival) (quiet : Go)
    (answers : List Answer) (result : Result (Unit {0}) BatchError) (first last : Go)
    → HasGathered w r old mid before after packets quiet → before.asks.items ≡ [] → before.waiting.items ≡ [] → 0 < length after.asks.items
    → TellsMore mid.asked called.asked ((after.asks.items, batch_outcome result answers) ∷ [])
    → TellsMore mid.handed called.handed ((worker.Receiver w.peer, point.Call, first) ∷ (worker.Receiver w.peer, point.Answered, last) ∷ [])
    → called ≡ record mid { asked = called.asked; handed = called.handed }
    → IfErr result (λ _. answers ≡ []) → HasAnswered r called now (zip after.waiting.items answers)
    → (given : Arrivals) × Did old now r (receiver_done w before.most r given)
turned_asked w r old mid called now before after packets quiet answers result first last g none_asked none_waits some asked around quiet_call none_given a =
    let outcome = batch_outcome result answers in
    let at : (Option (List ℕ) × Go) → Handed = λ x. (worker.Receiver w.peer, point.Heard, x.1) in
    let given : Arrivals = record { start = nowhere; packets = packets; quiet = quiet; before = first; outcome = outcome; after = last } in
    let takes = flat_map (takes_of_packet w before.most r) packets in
    let heard = receives before.most packets quiet in
    let asks : after.asks.items ≡ map (λ (x : NamedTake). x.ask) takes = g.more.asks ∙ ap (λ l. l ++ map (λ (x : NamedTake). x.ask) takes) none_asked in
    let waits : after.waiting.items ≡ map core_of_take takes = g.more.waits ∙ ap (λ l. l ++ map core_of_take takes) none_waits in
    let takes_some : 0 < length takes = omega (arith, some, ap length asks, map_length (λ (x : NamedTake). x.ask) takes) in
    let taken : zip after.waiting.items answers ≡ answers_to_cores (map core_of_take takes) outcome =
    ap (λ l. zip l answers) waits ∙ answered_is result (map core_of_take takes) answers none_given in
    let ans : HasAnswered r called now (answers_to_cores (map core_of_take takes) outcome) = subst (HasAnswered r called now) taken a in
    let asked_is : (after.asks.items, outcome) ∷ [] ≡ takes_asked takes outcome =
    (λ i. (asks i, outcome) ∷ []) ∙ sym (asked_some takes outcome takes_some) in
    let asked_all : TellsMore mid.asked called.asked (takes_asked takes outcome) = subst (TellsMore mid.asked called.asked) asked_is asked in
    let around_all : TellsMore mid.handed called.handed (around_takes w takes first last) = subst (TellsMore mid.handed called.handed) (sym (around_some w takes first last takes_some)) around in
    let hands : List Handed = map at heard ++ around_takes w takes first last in
    let did : Did old now r (takes_done w r heard takes given) = record {
      left = refl;
      heard = subst (λ h. TellsMore old.heard h (hearings heard)) (sym (ap (λ t. t.heard) a.same ∙ ap (λ t. t.heard) quiet_call)) g.heard;
      sent = subst (λ s. TellsMore s now.sent (answers_sent r (answers_to_cores (map core_of_take takes) outcome))) (ap (λ t. t.sent) quiet_call ∙ ap (λ t. t.sent) g.same) ans.sent;
      asked = subst (λ n. TellsMore old.asked n (takes_asked takes outcome)) (sym (ap (λ t. t.asked) a.same))
          (subst (λ o. TellsMore o called.asked (takes_asked takes outcome)) (ap (λ t. t.asked) g.same) asked_all);
      handed = subst (λ n. TellsMore old.handed n hands) (sym (ap (λ t. t.handed) a.same))
          (tells_more old.handed mid.handed called.handed _ _ g.handed around_all);
      woken = subst (λ s. TellsMore s now.woken (wakings (answers_to_cores (map core_of_take takes) outcome))) (ap (λ t. t.woken) quiet_call ∙ ap (λ t. t.woken) g.same) ans.woken;
    } in (
      given,
      subst (λ ps. Did old now r (takes_done w r (receives before.most ps quiet) (flat_map (takes_of_packet w before.most r) ps) given)) (sym (take_all before.most packets g.few)) did,
    )

-- the last of a reversed list is the first
pub first_of_reversed : {A : Type 0} (items rest : List A) (x : A) → items ≡ rest ++ x ∷ [] → reverse items ≡ x ∷ reverse rest
first_of_reversed items rest x e = ap reverse e ∙ reverse-append rest (x ∷ [])

pub none_left : {P : Type 0} (left : List P) → length left ≡ 0 → left ≡ []
none_left [] none = refl
none_left (p ∷ left) none = absurd (omega (arith, none))

abbrev received_by : ContactPlan → PeerId → EndsView → EndsView → Option Neighbour → Type 0
received_by plan peer old new found =
    IfNone found (new ≡ old)
    × IfSome found (λ neighbour. (most : ℕ) × ((most ≡ 64) ⊎ (most ≡ 1)) × (turns : List Arrivals)
    × Ran old new (worker.Receiver peer)
    (done_in (receiver_turn (receiver_worker plan peer) most) (receiver (record { 0 = plan.station }) (record { 0 = neighbour.station })) turns))

-- a receiver of a peer of the plan, at its end
pub has_received : (plan : ContactPlan) (peer : PeerId) (old new : EndsView) (neighbour : Neighbour) (most : ℕ) (turns : List Arrivals)
    → Some neighbour ≡ peer_at plan peer → (most ≡ 64) ⊎ (most ≡ 1)
    → Ran old new (worker.Receiver peer)
    (done_in (receiver_turn (receiver_worker plan peer) most) (receiver (record { 0 = plan.station }) (record { 0 = neighbour.station })) turns)
    → HasReceived plan peer old new
has_received plan peer old new neighbour most turns found which ran = subst (received_by plan peer old new) found (tt, (most, which, turns, ran))
