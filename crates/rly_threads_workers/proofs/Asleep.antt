-- A turn during a sender's sleep asks nothing but Picks, and sends nothing.
use Rattle.std.proofs.Common.{◌≡◌, ◌∙◌, ◌≤◌, ◌+◌, ◌-◌, ◌*◌, ◌^◌, ◌++◌, ℕ, Bool, true, false, not, List, [], ◌∷◌, ap, arith, inl, inr, length, map, min, refl, subst, suc, sym, take, zero}
use Rattle.std.specs.Prelude.{◌⊎◌, ◌<◌, ◌==◌, ◌&&◌, ◌||◌, filter, fold, nat_le, nat_lt, is_some, option_map, if◌then◌else◌, Option, Some, None, Ok, Err, ⊤}
use Rattle.std.specs.List.{All, cons_option, filter_map, range_with_len, zip}
use Rattle.std.specs.Option.{option_map_or}
use Rattle.std.proofs.Math.Seq.{take-nil}
use Rattle.std.proofs.lemmas.Bool.Decides.{nat_tests}
use Rattle.std.proofs.lemmas.List.{append-nil}
use Rattle.std.proofs.lemmas.List.Elements.{All-cons, All-nil}
use Rattle.rly_core.specs.declared.refusal.Refusal.TheVariants as refusal
use Rattle.rly_hop.specs.declared.sending.event.OutAction.{OutAction}
use Rattle.rly_hop.specs.declared.sending.event.OutAction.TheVariants as action
use Rattle.rly_hop.specs.declared.sending.event.OutEvent.{OutEvent}
use Rattle.rly_hop.specs.declared.sending.event.OutEvent.TheVariants as event
use Rattle.rly_hop.specs.Sender.{Sender}
use Rattle.rly_hop.specs.Sending.{turn_action}
use Rattle.rly_hop_pacing.specs.CongestionControl.{ControlView, first_option, is_missing, is_opening, is_timeout, is_wide, on_time, open_room, probe_number, probe_since, repeats, spare_number, spare_of, waiting_since, with_timeout}
use Rattle.rly_hop_pacing.specs.Flights.{sent_count, sent_numbers, set_back}
use Rattle.rly_hop_pacing.specs.Moments.{IsBefore, sooner}
use Rattle.rly_hop_pacing.specs.NextMoments.{next_moment, next_timeout}
use Rattle.rly_hop_pacing.specs.Rates.{next_room, room_at}
use Rattle.rly_hop_pacing.specs.Scoreboards.{on_opening}
use Rattle.rly_hop_pacing.specs.Timers.{is_past, round_trip, timer_anew}
use Rattle.rly_hop_pacing.specs.Windows.{first_congestion}
use Rattle.rly_hop_pacing.specs.declared.rate.Bucket.{Bucket}
use Rattle.rly_hop_pacing.proofs.LaterMoments.{idle-turn, no-timeout}
use Rattle.rly_hop_pacing.proofs.NextMoments.{both_before}
use Rattle.rly_hop_pacing.proofs.NextWork.{idle-before, neither}
use Rattle.rly_hop_pacing.proofs.RateMoments.{no-room-before}
use Rattle.rly_line.specs.declared.call_error.BatchError.TheVariants as error
use Rattle.rly_link.specs.declared.link.Sleep.TheVariants as sleep
use Rattle.rly_link.specs.declared.turn.Go.{Go}
use Rattle.rly_machine.specs.declared.call.Answer.{Answer}
use Rattle.rly_machine.specs.declared.command.Ask.{Ask}
use Rattle.rly_machine.specs.declared.command.Ask.TheVariants.{Command}
use Rattle.rly_machine.specs.declared.command.Command.TheVariants as command
use Rattle.rly_machine.specs.declared.reply.Reply.{Reply}
use Rattle.rly_machine.specs.declared.reply.Reply.TheVariants as reply
use Rattle.rly_plan.specs.Changes.{IsNextChange}
use Rattle.rly_plan.specs.ContactPlan.{edge_wait, is_open, link, next_change}
use Rattle.rly_plan.specs.Sound.{IsSoundPlan}
use Rattle.rly_plan.proofs.ChangeLaws.{next_change_is}
use Rattle.rly_plan.proofs.EdgeWaits.{edge_wait-keeps, edge_wait-none}
use Rattle.rly_threads_workers.specs.Asleep.{AsksOnlyPicks, Lasts}
use Rattle.rly_threads_workers.specs.DeskExchanges.{BatchOutcome}
use Rattle.rly_threads_workers.specs.SenderState.{action_on, control_on_release, control_on_reports, let_out, no_reports, on_moment, rate_room, send_room, set_back_if, with_contact, with_custody, with_left, with_reports}
use Rattle.rly_threads_workers.specs.SenderTurns.{SenderWorker, after_out_event, again_numbers, call_at, calls_from, contact_left, core_count, core_requests, edge_moment, event_in, has_changed, held_back, is_at_rest, named_ask, or_pick, repeat_count, sender_events, sender_on_calls, sender_packets, sender_requests, sender_sent, sender_sleep, sender_turn, sent_on, sleep_until, turn_calls, wants_room, work_moment}
use Rattle.rly_threads_workers.specs.Turns.{Given, Made}
use Rattle.rly_threads_workers.specs.declared.sender_state.Reports.{Reports}
use Rattle.rly_threads_workers.specs.declared.sender_state.SenderState.{SenderState}

-- each call is a Pick
abbrev ArePicks : List (OutAction (List ℕ)) → Type 0
ArePicks [] = ⊤
ArePicks (call ∷ calls) = (call ≡ action.Pick) × ArePicks calls

at_nothing : (place : ℕ) → nat_lt place 0 ≡ false
at_nothing place = grind (arith, nat_tests)

pick_at : (place : ℕ) → call_at [] action.Pick place ≡ action.Pick
pick_at place = ap (λ b. if b then action.Fetch 0 else action.Pick) (at_nothing place)

are_picks : (from count : ℕ) → ArePicks (map (call_at [] action.Pick) (range_with_len from count))
are_picks from zero = tt
are_picks from (suc count) = (pick_at from, are_picks (from + 1) count)

-- their asks
abbrev pick_ask : SenderWorker → ℕ → Ask
pick_ask w now = Command (command.Pick w.hop (link w.plan w.hop now))

asks_picks : (w : SenderWorker) (now : ℕ) (calls : List (OutAction (List ℕ))) → ArePicks calls
    → All (λ ask. ask ≡ pick_ask w now) (filter_map (named_ask w now) calls)
asks_picks w now [] all = All-nil (λ ask. ask ≡ pick_ask w now)
asks_picks w now (call ∷ calls) all =
    let rest = filter_map (named_ask w now) calls in
    subst (λ (x : OutAction (List ℕ)). All (λ ask. ask ≡ pick_ask w now) (cons_option (named_ask w now x) rest)) (sym all.0)
    (All-cons (λ ask. ask ≡ pick_ask w now) (pick_ask w now) rest refl (asks_picks w now calls all.1))

-- an answer to a Pick makes the core send nothing
no_action : (s : Sender) (r : Reply) → action_on s (event_in action.Pick r) ≡ None
no_action s (reply.WindowIs first next) = refl
no_action s (reply.Picked number id expired dropped) = refl
no_action s (reply.Nothing expired) = refl
no_action s (reply.Bytes payload limit) = refl
no_action s (reply.Released count) = refl
no_action s reply.Unchanged = refl
no_action s (reply.Refused refusal) = refl
no_action s (reply.Taken id) = refl
no_action s (reply.Already last) = refl
no_action s (reply.Shown status) = refl

silent : (in_contact : Bool) (rate : Option Bucket) (at : ℕ) → let_out rate (sender_packets in_contact None) at ≡ []
silent true rate at = refl
silent false rate at = refl

sent_none : (in_contact : Bool) (at : ℕ) (p : SenderState) (e : OutEvent (List ℕ)) → action_on p.core e ≡ None → sent_on in_contact at p e ≡ []
sent_none in_contact at p e none = ap (λ a. let_out p.rate (sender_packets in_contact a) at) none ∙ silent in_contact p.rate at

answers_send : (in_contact : Bool) (at : ℕ) (calls : List (OutAction (List ℕ))) (answers : List Answer) (p : SenderState) → ArePicks calls
    → sender_sent in_contact at p (map (λ (x : OutAction (List ℕ) × Answer). event_in x.0 x.1.reply) (zip calls answers)) ≡ []
answers_send in_contact at [] answers p all = refl
answers_send in_contact at (call ∷ calls) [] p all = refl
answers_send in_contact at (call ∷ calls) (answer ∷ answers) p all =
    let e = event_in call answer.reply in
    let none : action_on p.core e ≡ None = ap (λ x. action_on p.core (event_in x answer.reply)) all.0 ∙ no_action p.core answer.reply in
    let next = after_out_event in_contact at p e in
    ap (λ l. l ++ sender_sent in_contact at next (map (λ (x : OutAction (List ℕ) × Answer). event_in x.0 x.1.reply) (zip calls answers)))
    (sent_none in_contact at p e none)
    ∙ answers_send in_contact at calls answers next all.1

outcome_sends : (in_contact : Bool) (at : ℕ) (calls : List (OutAction (List ℕ))) (outcome : BatchOutcome) (p : SenderState) → ArePicks calls
    → sender_sent in_contact at p (sender_events calls outcome) ≡ []
outcome_sends in_contact at calls (Ok answers) p all = answers_send in_contact at calls answers p all
outcome_sends in_contact at calls (Err error.Closed) p all = ap (λ l. l ++ []) (sent_none in_contact at p (event.Refused refusal.Closed) refl)
outcome_sends in_contact at calls (Err error.Lost) p all = ap (λ l. l ++ []) (sent_none in_contact at p (event.Refused refusal.Lost) refl)

calls_quiet : (w : SenderWorker) (now : ℕ) (made : Made) (p : SenderState) (calls : List (OutAction (List ℕ))) → ArePicks calls
    → ((sender_on_calls w now made p calls).sent ≡ []) × AsksOnlyPicks w now (sender_on_calls w now made p calls).asked
calls_quiet w now made p [] all = (refl, All-nil (λ ask. ask ≡ pick_ask w now))
calls_quiet w now made p (call ∷ calls) all = (
  outcome_sends (is_open w.plan w.hop made.after.now) made.after.since (call ∷ calls) made.outcome p all,
  subst (All (λ ask. ask ≡ pick_ask w now)) (sym (append-nil (filter_map (named_ask w now) (call ∷ calls)))) (asks_picks w now (call ∷ calls) all),
)

-- of a core that wants no room, the calls are Picks, and there are none unless a Pick found nothing
abbrev OnlyIfDrained : Bool → List (OutAction (List ℕ)) → Type 0
OnlyIfDrained drained calls = ArePicks calls × (drained ≡ false → calls ≡ [])

abbrev zero_if : Bool → ℕ
zero_if b = if b then 0 else 0

none_counts : (b : Bool) → zero_if b ≡ 0
none_counts true = refl
none_counts false = refl

no_calls : (drained : Bool) (count : ℕ) (call : OutAction (List ℕ)) → count ≡ 0 → OnlyIfDrained drained (calls_from [] call count)
no_calls drained count call none =
    subst (λ n. OnlyIfDrained drained (calls_from [] call n)) (sym none) (tt, λ _. refl)

unwanted : (most room : ℕ) (p : SenderState) (drained : Bool) (named : Option (OutAction (List ℕ))) (count : ℕ) → count ≡ core_count most room p named
    → wants_room drained named ≡ false → OnlyIfDrained drained (calls_from [] (or_pick named) count)
unwanted most room p drained None count is none = no_calls drained count action.Pick is
unwanted most room p drained (Some action.AskWindow) count is none = absurd (cc)
unwanted most room p drained (Some (action.Release number)) count is none = absurd (cc)
unwanted most room p drained (Some (action.Fetch number)) count is none = absurd (cc)
unwanted most room p true (Some action.Pick) count is none = (are_picks 0 count, λ no. absurd (cc))
unwanted most room p false (Some action.Pick) count is none = absurd (cc)
unwanted most room p drained (Some (action.Send m)) count is none = no_calls drained count action.Pick (is ∙ none_counts (most == 0))

-- a turn without room, or with nothing to send
abbrev NothingToSend : SenderState → Bool → (room at : ℕ) → Type 0
NothingToSend p drained room at =
    (room ≡ 0) ⊎ (((most : ℕ) → repeats p.pace most at ≡ []) × (spare_number p.pace at ≡ None) × (wants_room drained (turn_action p.core true) ≡ false))

no_again : (b : Bool) (o : Option ℕ) → o ≡ None → (if b then cons_option o [] else []) ≡ []
no_again true o none = ap (λ x. cons_option x []) none
no_again false o none = refl

again_none : (p : SenderState) (drained : Bool) (most room at : ℕ) → NothingToSend p drained room at
    → again_numbers p.pace room at (repeats p.pace (repeat_count most room) at) ≡ []
again_none p drained most room at (inl none) =
    let few : repeat_count most room ≡ 0 = omega (arith, none) in
    ap (λ n. again_numbers p.pace room at (repeats p.pace n at)) few ∙ ap (λ n. again_numbers p.pace n at []) none
again_none p drained most room at (inr none) =
    ap (again_numbers p.pace room at) (none.0 (repeat_count most room)) ∙ no_again (nat_lt 0 room) (spare_number p.pace at) none.1

turn_wants : (s : Sender) (drained is_open : Bool) → turn_action s false ≡ None → wants_room drained (turn_action s true) ≡ false
    → wants_room drained (turn_action s is_open) ≡ false
turn_wants s drained true closed none = none
turn_wants s drained false closed none = ap (wants_room drained) closed

room_wants : (p : SenderState) (drained : Bool) (room at : ℕ) → turn_action p.core false ≡ None → NothingToSend p drained room at
    → wants_room drained (turn_action p.core (nat_lt 0 room)) ≡ false
room_wants p drained room at closed (inl none) = ap (λ n. wants_room drained (turn_action p.core (nat_lt 0 n))) none ∙ ap (wants_room drained) closed
room_wants p drained room at closed (inr none) = turn_wants p.core drained (nat_lt 0 room) closed none.2

quiet_requests : (p : SenderState) (drained : Bool) (most room at : ℕ) → turn_action p.core false ≡ None → NothingToSend p drained room at
    → OnlyIfDrained drained (core_requests most room at p).calls
quiet_requests p drained most room at closed none =
    let acting : SenderState = record p { drained = false; failed = false } in
    let calls : List ℕ → List (OutAction (List ℕ)) = λ again. turn_calls most room acting again (turn_action p.core (nat_lt (length again) room)) in
    let named = turn_action p.core (nat_lt 0 room) in
    let count : 0 + core_count (most - 0) (room - 0) acting named ≡ core_count (most - 0) (room - 0) acting named = omega arith in
    subst (OnlyIfDrained drained) (sym (ap calls (again_none p drained most room at none)))
    (unwanted (most - 0) (room - 0) acting drained named (0 + core_count (most - 0) (room - 0) acting named) count (room_wants p drained room at closed none))

-- without room of the contact there is none of the rate
no_rate_room : (rate : Option Bucket) (at : ℕ) → rate_room rate at 0 ≡ 0
no_rate_room None at = refl
no_rate_room (Some b) at = omega arith

-- a turn in the contact of the turn before, or in none as then
not_both : (b : Bool) → (b && not b) ≡ false
not_both true = refl
not_both false = refl

contact_cases : (opening : Bool) (p : SenderState) (q : ControlView) → opening ≡ false
    → set_back_if opening (record p { pace = if opening then q else record p.pace { is_open = p.pace.is_open } }) ≡ p
contact_cases true p q none = absurd (cc)
contact_cases false p q none = refl

same_contact : (p : SenderState) → with_contact p p.pace.is_open ≡ p
same_contact p = contact_cases (is_opening p.pace p.pace.is_open) p _ (not_both p.pace.is_open)

told_nothing : (p : SenderState) (at : ℕ) → turn_action p.core false ≡ None → p.reports ≡ no_reports → with_reports (with_custody p at) at ≡ p
told_nothing p at closed none =
    ap (λ (x : Option (OutAction (List ℕ))). with_reports (record p { pace = control_on_release p.pace x at }) at) closed
    ∙ ap (λ (r : Reports). record p { pace = control_on_reports p.pace r at; reports = no_reports }) none
    ∙ sym (λ i. record p { reports = none i })

same_moment : (p : SenderState) (is_open : Bool) (at : ℕ) → turn_action p.core false ≡ None → p.reports ≡ no_reports → is_open ≡ p.pace.is_open
    → on_moment p is_open at ≡ record p { pace = on_time p.pace at }
same_moment p is_open at closed none same =
    let told : with_reports (with_custody (with_contact p is_open) at) at ≡ p =
    ap (λ b. with_reports (with_custody (with_contact p b) at) at) same ∙ ap (λ (q : SenderState). with_reports (with_custody q at) at) (same_contact p)
    ∙ told_nothing p at closed none in
    ap (λ (q : SenderState). record q { pace = on_time q.pace at }) told

same_requests : (p : SenderState) (is_open : Bool) (most at : ℕ) → turn_action p.core false ≡ None → p.reports ≡ no_reports → is_open ≡ p.pace.is_open
    → NothingToSend (record p { pace = on_time p.pace at }) p.drained (send_room (record p { pace = on_time p.pace at }) at) at
    → OnlyIfDrained p.drained (core_requests most (send_room (on_moment p is_open at) at) at (on_moment p is_open at)).calls
same_requests p is_open most at closed none same nothing =
    let ready : SenderState = record p { pace = on_time p.pace at } in
    subst (λ (q : SenderState). OnlyIfDrained p.drained (core_requests most (send_room q at) at q).calls) (sym (same_moment p is_open at closed none same))
    (quiet_requests ready p.drained most (send_room ready at) at closed nothing)

-- Before the moment that the sleep lasts to there is nothing to send, or the rate lets nothing out
held_cases : (held : Bool) (b : Bucket) (s at : ℕ) (timeout : Option ℕ) (moment : ℕ) → s ≤ at
    → IsBefore at (if held then sooner timeout (Some (next_room b s)) else Some moment)
    → IsBefore at (Some moment) ⊎ ((room : ℕ) → min room (room_at b at) ≡ 0)
held_cases true b s at timeout moment later before =
    let none : room_at b at ≡ 0 = no-room-before b s at later (both_before at timeout (Some (next_room b s)) before).1 in
    inr (λ room. omega (arith, none))
held_cases false b s at timeout moment later before = inl before

held : (rate : Option Bucket) (s at : ℕ) (timeout moment : Option ℕ) → s ≤ at → IsBefore at (held_back rate s timeout moment)
    → IsBefore at moment ⊎ ((room : ℕ) → rate_room rate at room ≡ 0)
held None s at timeout moment later before = inl before
held (Some b) s at timeout None later before = inl tt
held (Some b) s at timeout (Some moment) later before =
    held_cases (nat_le moment s && (room_at b s == 0)) b s at timeout moment later before

idle_or_held : (p : SenderState) (s at : ℕ) → s ≤ at → IsBefore at (work_moment p s)
    → NothingToSend (record p { pace = on_time p.pace at }) p.drained (send_room (record p { pace = on_time p.pace at }) at) at
idle_or_held p s at later before =
    let wants = wants_room p.drained (turn_action p.core true) in
    let room = open_room (on_time p.pace at) at in
    elim (held p.rate s at (next_timeout p.pace s) (next_moment p.pace s wants) later before) [
      | inl early ↦ elim (idle-turn p.pace at wants (idle-before p.pace s at wants later early)).1 [
        | inl none ↦ inl (ap (rate_room p.rate at) none ∙ no_rate_room p.rate at)
        | inr none ↦ inr none
      ]
      | inr none ↦ inl (none room)
    ]

-- the contact ended
closing_requests : (p : SenderState) (most at : ℕ) → turn_action p.core false ≡ None → p.reports ≡ no_reports
    → OnlyIfDrained p.drained (core_requests most (send_room (on_moment p false at) at) at (on_moment p false at)).calls
closing_requests p most at closed none =
    let q : SenderState = record p { pace = record p.pace { is_open = false } } in
    let told : with_reports (with_custody q at) at ≡ q = told_nothing q at closed none in
    let ready : SenderState = record q { pace = on_time q.pace at } in
    subst (λ (r : SenderState). OnlyIfDrained p.drained (core_requests most (send_room r at) at r).calls)
    (sym (ap (λ (r : SenderState). record r { pace = on_time r.pace at }) told))
    (quiet_requests ready p.drained most (send_room ready at) at closed (inl (no_rate_room p.rate at)))

-- a contact began while nothing was in flight
and_false : (b : Bool) → (b && false) ≡ false
and_false true = refl
and_false false = refl

not_reached : (v : ControlView) (at : ℕ) → v.flight.reached ≡ v.flight.covered → with_timeout v at ≡ v
not_reached v at none =
    let few : nat_lt v.flight.covered v.flight.reached ≡ false = grind (arith, nat_tests) in
    let timeout : is_timeout v at ≡ false =
    ap (λ b. (v.is_open && not v.is_due && b) && is_past v.timer (waiting_since v) at) few
    ∙ ap (λ b. b && is_past v.timer (waiting_since v) at) (and_false (v.is_open && not v.is_due)) in
    no-timeout (is_timeout v at) v _ timeout

nothing_again : (v : ControlView) (at : ℕ) → v.flight.reached ≡ v.flight.covered → v.news_at ≡ None
    → ((most : ℕ) → repeats (on_time v at) most at ≡ []) × (spare_number (on_time v at) at ≡ None)
nothing_again v at none quiet =
    let q = on_time v at in
    let same : with_timeout v at ≡ v = not_reached v at none in
    let few : sent_count v.flight ≡ 0 = omega (arith, none) in
    let sent : sent_numbers q.flight ≡ [] = ap (λ (r : ControlView). sent_numbers r.flight) same ∙ ap (range_with_len (v.flight.covered + 1)) few in
    let news : q.news_at ≡ None = ap (λ (r : ControlView). r.news_at) same ∙ quiet in
    let full = q.congestion.is_rated && nat_le q.congestion.window (sent_count q.flight) in
    let narrow : is_wide q at ≡ false =
    ap (λ (o : Option ℕ). full && option_map_or (λ (news_at : ℕ). nat_le (at - news_at) (2 * round_trip q.timer)) o false) news ∙ and_false full in (
      (λ most. ap (λ l. take most (filter (is_missing q at) l)) sent ∙ take-nil most),
      ap (λ b. first_option (if b then spare_of q at else None) (probe_number q at)) narrow ∙ ap (probe_since q at) news,
    )

-- what the core requests then is a Pick, if anything
abbrev rows_of : (unready : Bool) (acked : Option ℕ) (otherwise : Option (OutAction (List ℕ))) → Option (OutAction (List ℕ))
rows_of unready acked otherwise = if unready then Some action.AskWindow else (if is_some acked then option_map action.Release acked else otherwise)

rows : (unready : Bool) (acked : Option ℕ) (otherwise : Option (OutAction (List ℕ))) → rows_of unready acked None ≡ None
    → rows_of unready acked otherwise ≡ otherwise
rows true acked otherwise closed = absurd (cc)
rows false None otherwise closed = refl
rows false (Some a) otherwise closed = absurd (cc)

pick_unwanted : (b : Bool) → wants_room true (if b then Some action.Pick else None) ≡ false
pick_unwanted true = refl
pick_unwanted false = refl

opening_wants : (s : Sender) → turn_action s false ≡ None → (s.first == s.next) ≡ true
    → wants_room true (turn_action (record s { cursor = s.first }) true) ≡ false
opening_wants s closed idle =
    let none : nat_lt s.first s.next ≡ false = grind (arith, nat_tests) in
    let pick = if (s.first == s.next) && nat_lt (s.next - s.first) s.window then Some action.Pick else None in
    ap (wants_room true) (rows (not s.ready) s.acked (if nat_lt s.first s.next then Some (action.Fetch s.first) else pick) closed)
    ∙ ap (λ b. wants_room true (if b then Some (action.Fetch s.first) else pick)) none
    ∙ pick_unwanted ((s.first == s.next) && nat_lt (s.next - s.first) s.window)

opening_cases : (opening : Bool) (p : SenderState) (q r : ControlView) → opening ≡ true
    → set_back_if opening (record p { pace = if opening then q else r }) ≡ record p { core = record p.core { cursor = p.core.first }; pace = q }
opening_cases true p q r opens = refl
opening_cases false p q r opens = absurd (cc)

opening_requests : (p : SenderState) (most at : ℕ) → turn_action p.core false ≡ None → p.reports ≡ no_reports → p.pace.is_open ≡ false
    → p.drained ≡ true → (p.core.first == p.core.next) ≡ true
    → OnlyIfDrained p.drained (core_requests most (send_room (on_moment p true at) at) at (on_moment p true at)).calls
opening_requests p most at closed none was drained idle =
    let v : ControlView = record p.pace {
      is_open = true;
      flight = set_back p.pace.flight;
      board = on_opening p.pace.board;
      timer = timer_anew p.pace.timer;
      congestion = first_congestion p.pace.congestion.window p.pace.congestion.is_rated;
      round = record p.pace.round { mark = p.pace.board.count };
      news_at = None;
      is_due = false;
      recover = 0;
    } in
    let q : SenderState = record p { core = record p.core { cursor = p.core.first }; pace = v } in
    let opens : with_contact p true ≡ q = opening_cases (is_opening p.pace true) p v _ (ap not was) in
    let told : with_reports (with_custody (with_contact p true) at) at ≡ q =
    ap (λ (r : SenderState). with_reports (with_custody r at) at) opens ∙ told_nothing q at closed none in
    let ready : SenderState = record q { pace = on_time v at } in
    let again = nothing_again v at refl refl in
    let wants : wants_room p.drained (turn_action q.core true) ≡ false =
    ap (λ b. wants_room b (turn_action q.core true)) drained ∙ opening_wants p.core closed idle in
    subst (λ (r : SenderState). OnlyIfDrained p.drained (core_requests most (send_room r at) at r).calls)
    (sym (ap (λ (r : SenderState). record r { pace = on_time r.pace at }) told))
    (quiet_requests ready p.drained most (send_room ready at) at closed (inr (again.0, again.1, wants)))

-- a sleep that lasts
record Sleeping (w : SenderWorker) (p : SenderState) (start : Go) (at : ℕ) : Type 0 where
  closed : turn_action p.core false ≡ None
  same : has_changed w p start ≡ false
  work : IsBefore at (work_moment p start.since)
  edge : IsBefore at (edge_moment w p start)

not_due : (due : Bool) (moment at : ℕ) → Lasts (if due then sleep.No else sleep.Until moment) at → at < moment
not_due true moment at lasts = absurd lasts
not_due false moment at lasts = lasts

lasts_cases : (busy : Bool) (now : ℕ) (o : Option ℕ) (at : ℕ) → Lasts (if busy then sleep.No else sleep_until now o) at → (busy ≡ false) × IsBefore at o
lasts_cases true now o at lasts = absurd lasts
lasts_cases false now None at lasts = (refl, tt)
lasts_cases false now (Some moment) at lasts = (refl, not_due (nat_le moment now) moment at lasts)

not_some : (o : Option (OutAction (List ℕ))) → is_some o ≡ false → o ≡ None
not_some None none = refl
not_some (Some x) none = absurd (cc)

sleeping : (w : SenderWorker) (p : SenderState) (start : Go) (at : ℕ) → p.failed ≡ false → Lasts (sender_sleep w p start) at → Sleeping w p start at
sleeping w p start at fine lasts =
    let moment = sooner (work_moment p start.since) (edge_moment w p start) in
    let busy = is_some (turn_action p.core false) || has_changed w p start in
    let calm : Lasts (if busy then sleep.No else sleep_until start.since moment) at =
    subst (λ b. Lasts (if b then sleep.Until (min (start.since + 10000) (2 ^ 64 - 1)) else (if busy then sleep.No else sleep_until start.since moment)) at) fine lasts in
    let both = lasts_cases busy start.since moment at calm in
    let neither_is = neither (is_some (turn_action p.core false)) (has_changed w p start) both.0 in
    let before = both_before at (work_moment p start.since) (edge_moment w p start) both.1 in
    record { closed = not_some (turn_action p.core false) neither_is.0; same = neither_is.1; work = before.0; edge = before.1 }

both_true : (a b : Bool) → (a && b) ≡ true → (a ≡ true) × (b ≡ true)
both_true true b both = (refl, both)
both_true false b both = absurd (cc)

rest_requests : (p : SenderState) (is_open was : Bool) (most s at : ℕ) → s ≤ at → IsBefore at (work_moment p s) → turn_action p.core false ≡ None → p.reports ≡ no_reports
    → was ≡ p.pace.is_open → is_at_rest p ≡ true
    → OnlyIfDrained p.drained (core_requests most (send_room (on_moment p is_open at) at) at (on_moment p is_open at)).calls
rest_requests p true true most s at later before closed none was rest =
    same_requests p true most at closed none was (idle_or_held p s at later before)
rest_requests p false false most s at later before closed none was rest =
    same_requests p false most at closed none was (idle_or_held p s at later before)
rest_requests p false true most s at later before closed none was rest = closing_requests p most at closed none
rest_requests p true false most s at later before closed none was rest =
    let both = both_true p.drained (p.core.first == p.core.next) rest in
    opening_requests p most at closed none (sym was) both.0 both.1

-- the calls of a turn to which no packet comes
quiet_calls : (w : SenderWorker) (most : ℕ) (p : SenderState) (given : Given) → p.failed ≡ false → p.reports ≡ no_reports → given.packets ≡ []
    → given.start.since ≤ given.heard.since → Lasts (sender_sleep w p given.start) given.heard.since
    → (is_open w.plan w.hop given.heard.now ≡ p.pace.is_open) ⊎ (is_at_rest p ≡ true)
    → OnlyIfDrained p.drained (sender_requests w most p (take 64 given.packets) given.heard).calls
quiet_calls w most p given fine none quiet later lasts contact =
    let at = given.heard.since in
    let opened = is_open w.plan w.hop given.heard.now in
    let q = with_left (contact_left w given.heard.now) p in
    let asleep = sleeping w p given.start at fine lasts in
    let calls : OnlyIfDrained p.drained (core_requests most (send_room (on_moment q opened at) at) at (on_moment q opened at)).calls =
    elim contact [
      | inl same ↦ same_requests q opened most at asleep.closed none same (idle_or_held q given.start.since at later asleep.work)
      | inr rest ↦ rest_requests q opened p.pace.is_open most given.start.since at later asleep.work asleep.closed none refl rest
    ] in
    subst (λ (l : List (List ℕ)). OnlyIfDrained p.drained (sender_requests w most p (take 64 l) given.heard).calls) (sym quiet) calls

no_asks : (w : SenderWorker) (now : ℕ) (made : Made) (p : SenderState) (calls : List (OutAction (List ℕ))) → calls ≡ []
    → (sender_on_calls w now made p calls).asked ≡ []
no_asks w now made p calls none = ap (λ l. (sender_on_calls w now made p l).asked) none

pub sleep_misses_nothing : (w : SenderWorker) (most : ℕ) (p : SenderState) (given : Given) → p.failed ≡ false → p.reports ≡ no_reports → given.packets ≡ []
    → given.start.since ≤ given.heard.since → Lasts (sender_sleep w p given.start) given.heard.since
    → (is_open w.plan w.hop given.heard.now ≡ p.pace.is_open) ⊎ (is_at_rest p ≡ true)
    → ((sender_turn w most p given).sent ≡ []) × AsksOnlyPicks w given.heard.now (sender_turn w most p given).asked
    × (p.drained ≡ false → (sender_turn w most p given).asked ≡ [])
sleep_misses_nothing w most p given fine none quiet later lasts contact =
    let first = sender_requests w most p (take 64 given.packets) given.heard in
    let picks = quiet_calls w most p given fine none quiet later lasts contact in
    let done = calls_quiet w given.heard.now given.made first.state first.calls picks.0 in
    (done.0, done.1, λ undrained. no_asks w given.heard.now given.made first.state first.calls (picks.1 undrained))

-- while it sleeps, its contact stays as it was
same_cases : (was now : Bool) → (if was then not now else now) ≡ false → now ≡ was
same_cases true true same = refl
same_cases true false same = absurd (cc)
same_cases false now same = same

no_edge : (f : ℕ → Bool) (from now : ℕ) (change : Option ℕ) → IsNextChange f from change → is_some change ≡ false → from ≤ now → f now ≡ f from
no_edge f from now None is none later = is now later
no_edge f from now (Some change) is none later = absurd (cc)

edge_cases : (w : SenderWorker) (start : Go) (at now : ℕ) (edge : Option ℕ) → IsSoundPlan w.plan → edge_wait w.plan w.hop start.now ≡ edge
    → IsBefore at (option_map (λ wait. min (start.since + wait) (2 ^ 64 - 1)) edge) → start.now ≤ now → now - start.now ≤ at - start.since
    → is_open w.plan w.hop now ≡ is_open w.plan w.hop start.now
edge_cases w start at now None sound is before later slower =
    no_edge (is_open w.plan w.hop) start.now now (next_change w.plan w.hop start.now) (next_change_is w.plan w.hop start.now sound)
    (sym (edge_wait-none w.plan w.hop start.now) ∙ ap is_some is) later
edge_cases w start at now (Some wait) sound is before later slower =
    let keeps = edge_wait-keeps w.plan w.hop start.now wait sound is in
    keeps.1 now later (omega (arith, keeps.0, before, slower))

pub contact_lasts : (w : SenderWorker) (p : SenderState) (start heard : Go) → IsSoundPlan w.plan → p.failed ≡ false → is_at_rest p ≡ false
    → Lasts (sender_sleep w p start) heard.since → start.now ≤ heard.now → heard.now - start.now ≤ heard.since - start.since
    → is_open w.plan w.hop heard.now ≡ p.pace.is_open
contact_lasts w p start heard sound fine awake lasts later slower =
    let asleep = sleeping w p start heard.since fine lasts in
    let edge = edge_wait w.plan w.hop start.now in
    let before : IsBefore heard.since (option_map (λ wait. min (start.since + wait) (2 ^ 64 - 1)) edge) =
    subst (λ b. IsBefore heard.since (if b then None else option_map (λ wait. min (start.since + wait) (2 ^ 64 - 1)) edge)) awake asleep.edge in
    edge_cases w start heard.since heard.now edge sound refl before later slower
    ∙ same_cases p.pace.is_open (is_open w.plan w.hop start.now) asleep.same

-- no turn leaves a Heard behind
fold_keeps : (in_contact : Bool) (at : ℕ) (p : SenderState) (told : List (OutEvent (List ℕ))) → (fold (after_out_event in_contact at) p told).reports ≡ p.reports
fold_keeps in_contact at p [] = refl
fold_keeps in_contact at p (e ∷ told) = fold_keeps in_contact at (after_out_event in_contact at p e) told

calls_keep : (w : SenderWorker) (now : ℕ) (made : Made) (p : SenderState) (calls : List (OutAction (List ℕ))) → (sender_on_calls w now made p calls).core.reports ≡ p.reports
calls_keep w now made p [] = refl
calls_keep w now made p (call ∷ calls) =
    fold_keeps (is_open w.plan w.hop made.after.now) made.after.since p (sender_events (call ∷ calls) made.outcome)

pub reports_are_used : (w : SenderWorker) (most : ℕ) (p : SenderState) (given : Given) → (sender_turn w most p given).core.reports ≡ no_reports
reports_are_used w most p given =
    let first = sender_requests w most p (take 64 given.packets) given.heard in
    calls_keep w given.heard.now given.made first.state first.calls
