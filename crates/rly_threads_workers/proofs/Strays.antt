-- A packet that is neither a Custody nor a Heard on the flight, and a Custody of nothing more that comes early.
use Rattle.std.proofs.Common.{◌≡◌, ◌∙◌, ◌≤◌, ◌<◌, ◌+◌, ◌-◌, ◌++◌, ◌∷◌, [], ℕ, Bool, true, false, List, ap, arith, length, refl, sym}
use Rattle.std.proofs.lemmas.Bool.Decides.{nat_tests}
use Rattle.std.specs.Prelude.{◌==◌, ◌&&◌, ◌||◌, nat_le, nat_lt, not, if◌then◌else◌, fold, max, Option, Some, None, take}
use Rattle.std.specs.Option.{option_map_or}
use Rattle.std.proofs.lemmas.List.{take_all}
use Rattle.rly_hop.specs.declared.message.Message.{Message}
use Rattle.rly_hop.specs.declared.message.Message.TheVariants as message
use Rattle.rly_hop.specs.declared.sending.event.OutAction.{OutAction}
use Rattle.rly_hop.specs.declared.sending.event.OutEvent.{OutEvent}
use Rattle.rly_hop.specs.Sender.{Sender}
use Rattle.rly_hop.specs.Sending.{reports_flight}
use Rattle.rly_hop_pacing.specs.CongestionControl.{ControlView, ends_doubling, is_opening, is_timeout, may_time_out, on_contact, on_custody, on_time, open_room, waiting_since, with_timeout}
use Rattle.rly_hop_pacing.specs.Timers.{is_past, timer_anew}
use Rattle.rly_hop_pacing.proofs.Custodies.{answered, is_early, not_early}
use Rattle.rly_hop_pacing.proofs.LaterMoments.{no-timeout}
use Rattle.rly_plan.specs.ContactPlan.{is_open}
use Rattle.rly_threads_workers.specs.declared.sender_state.Reports.{Reports}
use Rattle.rly_threads_workers.specs.declared.sender_state.SenderState.{SenderState}
use Rattle.rly_threads_workers.specs.SenderTurns.{SenderWorker, after_out_event, contact_left, core_requests, sender_events, sender_on_calls, sender_on_packet, sender_sent, sender_turn, sent_on}
use Rattle.rly_threads_workers.specs.SenderState.{action_on, control_on_answer, control_on_custody, control_on_named, control_on_report, on_moment, reports_after, send_room, sender_on_hearing, set_back_if, with_contact, with_custody, with_left, with_reports}
use Rattle.rly_threads_workers.specs.Strays.{IsEarly, concerns_flight, covers_nothing, is_of_nothing_more, is_on_flight}
use Rattle.rly_link.specs.LinkHistory.{message_in}
use Rattle.rly_threads_workers.specs.Turns.{Done, Given, Made}

-- a Custody that isn't on the flight covers no number in it
none_covered : (a b ready : Bool) (first last next : ℕ) → (a && b && ready && nat_le (first - 1) last && nat_lt last next) ≡ false
    → (a && b && ready && nat_le first last && nat_lt last next) ≡ false
none_covered false b ready first last next none = refl
none_covered true false ready first last next none = refl
none_covered true true false first last next none = refl
none_covered true true true first last next none = grind (arith, nat_tests, none)

hearing_stray : (p : SenderState) (m : Option (Message (List ℕ))) → concerns_flight p.core m ≡ false → sender_on_hearing p m ≡ p
hearing_stray p None is = refl
hearing_stray p (Some (message.Data from to number limit payload)) is = refl
hearing_stray p (Some (message.Custody from to last)) is =
    let none = none_covered (from.0 == p.core.hop.0) (to.0 == p.core.own.0) p.core.ready p.core.first last p.core.next is in
    (λ i. record p {
      core = if none i then record p.core { acked = Some (option_map_or (λ a. max a last) p.core.acked last) } else p.core;
      reports = if is i then record p.reports { custody = true } else p.reports;
    })
hearing_stray p (Some (message.Refused from to number refusal)) is = refl
hearing_stray p (Some (message.Heard from to last bits)) is =
    ap (λ b. record p { reports = if b then record p.reports { heard = Some (record { last = last; bits = bits }) } else p.reports }) is

without : (p : SenderState) (before later : List (List ℕ)) (packet : List ℕ) → is_on_flight (fold sender_on_packet p before).core packet ≡ false
    → fold sender_on_packet p (before ++ packet ∷ later) ≡ fold sender_on_packet p (before ++ later)
without p [] later packet is = ap (λ x. fold sender_on_packet x later) (hearing_stray p (message_in (Some packet)) is)
without p (first ∷ before) later packet is = without (sender_on_packet p first) before later packet is

-- the effects of a turn after it received its packets, by the state after them
abbrev pub acts_on : SenderWorker → ℕ → Given → SenderState → Done SenderState
acts_on w most given ready =
    let first = core_requests most (send_room ready given.heard.since) given.heard.since ready in
    sender_on_calls w given.heard.now given.made first.state first.calls

abbrev pub ready_after : SenderWorker → Given → SenderState → SenderState
ready_after w given heard =
    on_moment (with_left (contact_left w given.heard.now) heard) (is_open w.plan w.hop given.heard.now) given.heard.since

abbrev pub acts_after : SenderWorker → ℕ → Given → SenderState → Done SenderState
acts_after w most given heard = acts_on w most given (ready_after w given heard)

-- the same packets without this one give the same state
states_are : (p : SenderState) (before later all : List (List ℕ)) (packet : List ℕ) → all ≡ before ++ packet ∷ later → length all ≤ 64 → length (before ++ later) ≤ 64
    → is_on_flight (fold sender_on_packet p before).core packet ≡ false
    → fold sender_on_packet p (take 64 all) ≡ fold sender_on_packet p (take 64 (before ++ later))
states_are p before later all packet parts few fewer is =
    ap (fold sender_on_packet p) (take_all 64 all few ∙ parts) ∙ without p before later packet is ∙ ap (fold sender_on_packet p) (sym (take_all 64 (before ++ later) fewer))

pub strays_draw_nothing : (w : SenderWorker) (most : ℕ) (p : SenderState) (given : Given) (before later : List (List ℕ)) (packet : List ℕ)
    → given.packets ≡ before ++ packet ∷ later → length given.packets ≤ 64 → length (before ++ later) ≤ 64
    → is_on_flight (fold sender_on_packet p before).core packet ≡ false
    → ((sender_turn w most p given).core ≡ (sender_turn w most p (record given { packets = before ++ later })).core)
    × ((sender_turn w most p given).sent ≡ (sender_turn w most p (record given { packets = before ++ later })).sent)
    × ((sender_turn w most p given).asked ≡ (sender_turn w most p (record given { packets = before ++ later })).asked)
strays_draw_nothing w most p given before later packet parts few fewer is =
    let states = states_are p before later given.packets packet parts few fewer is in (
      (λ i. (acts_after w most given (states i)).core),
      (λ i. (acts_after w most given (states i)).sent),
      (λ i. (acts_after w most given (states i)).asked),
    )

-- a Custody came that covers nothing more
abbrev with_again : SenderState → SenderState
with_again p = record p { reports = record p.reports { custody = true } }

both_are : (a b : Bool) → (a && b) ≡ true → (a ≡ true) × (b ≡ true)
both_are true b is = (refl, is)
both_are false b is = absurd (cc)

uncovered : (a b ready : Bool) (first last next : ℕ) → nat_lt last first ≡ true → (a && b && ready && nat_le first last && nat_lt last next) ≡ false
uncovered false b ready first last next less = refl
uncovered true false ready first last next less = refl
uncovered true true false first last next less = refl
uncovered true true true first last next less = grind (arith, nat_tests, less)

hearing_again : (p : SenderState) (m : Option (Message (List ℕ))) → covers_nothing p.core m ≡ true → sender_on_hearing p m ≡ with_again p
hearing_again p None is = absurd (cc)
hearing_again p (Some (message.Data from to number limit payload)) is = absurd (cc)
hearing_again p (Some (message.Custody from to last)) is =
    let both = both_are (reports_flight p.core from to last) (nat_lt last p.core.first) is in
    let none = uncovered (from.0 == p.core.hop.0) (to.0 == p.core.own.0) p.core.ready p.core.first last p.core.next both.1 in
    (λ i. record p {
      core = if none i then record p.core { acked = Some (option_map_or (λ a. max a last) p.core.acked last) } else p.core;
      reports = if both.0 i then record p.reports { custody = true } else p.reports;
    })
hearing_again p (Some (message.Refused from to number refusal)) is = absurd (cc)
hearing_again p (Some (message.Heard from to last bits)) is = absurd (cc)

-- what comes after it is heard as without it
kept_heard : (b : Bool) (r : Reports) (heard : Reports) → (if b then record r { custody = true; heard = heard.heard } else record r { custody = true })
    ≡ record (if b then record r { heard = heard.heard } else r) { custody = true }
kept_heard true r heard = refl
kept_heard false r heard = refl

kept_custody : (b : Bool) (r : Reports) → (if b then record r { custody = true } else record r { custody = true })
    ≡ record (if b then record r { custody = true } else r) { custody = true }
kept_custody true r = refl
kept_custody false r = refl

again_hearing : (p : SenderState) (m : Option (Message (List ℕ))) → sender_on_hearing (with_again p) m ≡ with_again (sender_on_hearing p m)
again_hearing p None = refl
again_hearing p (Some (message.Data from to number limit payload)) = refl
again_hearing p (Some (message.Custody from to last)) =
    ap (λ (r : Reports). record (sender_on_hearing p (Some (message.Custody from to last))) { reports = r }) (kept_custody (reports_flight p.core from to last) p.reports)
again_hearing p (Some (message.Refused from to number refusal)) = refl
again_hearing p (Some (message.Heard from to last bits)) =
    ap (λ (r : Reports). record (sender_on_hearing p (Some (message.Heard from to last bits))) { reports = r })
    (kept_heard (reports_flight p.core from to last) p.reports (record { custody = true; heard = Some (record { last = last; bits = bits }) }))

again_later : (p : SenderState) (packets : List (List ℕ)) → fold sender_on_packet (with_again p) packets ≡ with_again (fold sender_on_packet p packets)
again_later p [] = refl
again_later p (packet ∷ packets) =
    ap (λ x. fold sender_on_packet x packets) (again_hearing p (message_in (Some packet))) ∙ again_later (sender_on_packet p packet) packets

but_again : (p : SenderState) (before later : List (List ℕ)) (packet : List ℕ) → is_of_nothing_more (fold sender_on_packet p before).core packet ≡ true
    → fold sender_on_packet p (before ++ packet ∷ later) ≡ with_again (fold sender_on_packet p (before ++ later))
but_again p [] later packet is = ap (λ x. fold sender_on_packet x later) (hearing_again p (message_in (Some packet)) is) ∙ again_later p later
but_again p (first ∷ before) later packet is = but_again (sender_on_packet p first) before later packet is

-- a state with its doubling ended
abbrev hurried : Bool → ControlView → ControlView
hurried ends v = if ends then record v { timer = timer_anew v.timer; is_answered = true } else v

-- a turn's end of its time: a round in which it has no room uses its window up
abbrev limited : ControlView → ℕ → ControlView
limited q at = record q { round = record q.round { is_limited = q.round.is_limited || (q.is_open && (open_room q at == 0)) } }

no_time : (q : ControlView) (at : ℕ) → is_timeout q at ≡ false → on_time q at ≡ limited q at
no_time q at none = ap (λ (v : ControlView). limited v at) (no-timeout (is_timeout q at) q _ none)

and_none : (may past : Bool) → past ≡ false → (may && past) ≡ false
and_none true past none = none
and_none false past none = refl

time_cases : (ends : Bool) (q : ControlView) (is_due : Bool) (at : ℕ) → (if ends then answered q is_due else q).is_due ≡ q.is_due
    → is_timeout q at ≡ false → at < waiting_since q + q.timer.resend
    → on_time (if ends then answered q is_due else q) at ≡ hurried ends (on_time q at)
time_cases false q is_due at same none early = refl
time_cases true q is_due at same none early =
    let past : is_timeout (answered q q.is_due) at ≡ false =
    and_none (may_time_out q) (is_past (timer_anew q.timer) (waiting_since q) at) (is_early q at early) in
    ap (λ b. on_time (answered q b) at) same ∙ no_time (answered q q.is_due) at past ∙ ap (hurried true) (sym (no_time q at none))

abbrev IsEarlyIn : ControlView → ℕ → Type 0
IsEarlyIn q at = (is_timeout q at ≡ false) × (at < waiting_since q + q.timer.resend)

told_cases : (came : Bool) (q : ControlView) (at : ℕ) → IsEarlyIn (control_on_custody q came at) at
    → (ends : Bool) × (on_time (on_custody q at) at ≡ hurried ends (on_time (control_on_custody q came at) at))
told_cases true q at early = (false, refl)
told_cases false q at early = (
  ends_doubling q,
  time_cases (ends_doubling q) q (q.is_due || (is_timeout (answered q q.is_due) at && not (is_timeout q at))) at (not_early q at early.1) early.0 early.1,
)

contact_again : (due : Bool) (p : SenderState) → set_back_if due (with_again p) ≡ with_again (set_back_if due p)
contact_again true p = refl
contact_again false p = refl

-- what goes out doesn't depend on the pace
sent_same : (in_contact : Bool) (at : ℕ) (p : SenderState) (pace : ControlView) (told : List (OutEvent (List ℕ)))
    → sender_sent in_contact at (record p { pace = pace }) told ≡ sender_sent in_contact at p told
sent_same in_contact at p pace [] = refl
sent_same in_contact at p pace (e ∷ told) =
    ap (λ l. sent_on in_contact at p e ++ l)
    (sent_same in_contact at (after_out_event in_contact at p e) (control_on_named (control_on_answer pace e) (action_on p.core e) at) told)

calls_same : (w : SenderWorker) (now : ℕ) (made : Made) (p : SenderState) (pace : ControlView) (calls : List (OutAction (List ℕ)))
    → ((sender_on_calls w now made (record p { pace = pace }) calls).sent ≡ (sender_on_calls w now made p calls).sent)
    × ((sender_on_calls w now made (record p { pace = pace }) calls).asked ≡ (sender_on_calls w now made p calls).asked)
calls_same w now made p pace [] = (refl, refl)
calls_same w now made p pace (call ∷ calls) =
    (sent_same (is_open w.plan w.hop made.after.now) made.after.since p pace (sender_events (call ∷ calls) made.outcome), refl)

acts_same : (w : SenderWorker) (most : ℕ) (given : Given) (ends : Bool) (ready : SenderState)
    → ((acts_on w most given (record ready { pace = hurried ends ready.pace })).sent ≡ (acts_on w most given ready).sent)
    × ((acts_on w most given (record ready { pace = hurried ends ready.pace })).asked ≡ (acts_on w most given ready).asked)
acts_same w most given false ready = (refl, refl)
acts_same w most given true ready =
    let first = core_requests most (send_room ready given.heard.since) given.heard.since ready in
    calls_same w given.heard.now given.made first.state (hurried true ready.pace) first.calls

-- the turn with it and the one without
again_draws_nothing : (w : SenderWorker) (most : ℕ) (given : Given) (heard : SenderState)
    → IsEarlyIn (with_reports (with_custody (with_contact (with_left (contact_left w given.heard.now) heard) (is_open w.plan w.hop given.heard.now))
    given.heard.since) given.heard.since).pace given.heard.since
    → ((acts_after w most given (with_again heard)).sent ≡ (acts_after w most given heard).sent)
    × ((acts_after w most given (with_again heard)).asked ≡ (acts_after w most given heard).asked)
again_draws_nothing w most given heard early =
    let at = given.heard.since in
    let opened = is_open w.plan w.hop given.heard.now in
    let left = with_left (contact_left w given.heard.now) heard in
    let t = with_custody (with_contact left opened) at in
    let q = control_on_report t.pace t.reports.heard at in
    let told = with_reports t at in
    let cases = told_cases t.reports.custody q at early in
    let contact : with_contact (with_again left) opened ≡ with_again (with_contact left opened) =
    contact_again (is_opening left.pace opened) (record left { pace = on_contact left.pace opened }) in
    let ready : ready_after w given (with_again heard) ≡ record (ready_after w given heard) { pace = hurried cases.0 (ready_after w given heard).pace } =
    ap (λ (v : SenderState). record (with_reports (with_custody v at) at) { pace = on_time (with_reports (with_custody v at) at).pace at }) contact
    ∙ ap (λ (v : ControlView). record told { pace = v }) cases.1 in
    let same = acts_same w most given cases.0 (ready_after w given heard) in (
      ap (λ (r : SenderState). (acts_on w most given r).sent) ready ∙ same.0,
      ap (λ (r : SenderState). (acts_on w most given r).asked) ready ∙ same.1,
    )

pub early_draws_nothing : (w : SenderWorker) (most : ℕ) (p : SenderState) (given : Given) (before later : List (List ℕ)) (packet : List ℕ)
    → given.packets ≡ before ++ packet ∷ later → length given.packets ≤ 64 → length (before ++ later) ≤ 64
    → is_of_nothing_more (fold sender_on_packet p before).core packet ≡ true → IsEarly w p (before ++ later) given.heard
    → ((sender_turn w most p given).sent ≡ (sender_turn w most p (record given { packets = before ++ later })).sent)
    × ((sender_turn w most p given).asked ≡ (sender_turn w most p (record given { packets = before ++ later })).asked)
early_draws_nothing w most p given before later packet parts few fewer is early =
    let heard = fold sender_on_packet p (before ++ later) in
    let whole : fold sender_on_packet p (take 64 given.packets) ≡ with_again heard =
    ap (fold sender_on_packet p) (take_all 64 given.packets few ∙ parts) ∙ but_again p before later packet is in
    let rest : heard ≡ fold sender_on_packet p (take 64 (before ++ later)) = ap (fold sender_on_packet p) (sym (take_all 64 (before ++ later) fewer)) in
    let same = again_draws_nothing w most given heard early in (
      (λ i. (acts_after w most given (whole i)).sent) ∙ same.0 ∙ (λ i. (acts_after w most given (rest i)).sent),
      (λ i. (acts_after w most given (whole i)).asked) ∙ same.1 ∙ (λ i. (acts_after w most given (rest i)).asked),
    )
