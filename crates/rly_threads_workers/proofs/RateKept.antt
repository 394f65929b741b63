-- The cost of a sending worker's packets to its hop's rate.
use Rattle.std.proofs.Common.{◌≡◌, ◌∙◌, ◌≤◌, ◌+◌, ◌-◌, ◌*◌, ◌++◌, ℕ, Bool, true, false, List, [], ◌∷◌, ap, arith, inl, inr, length, max, min, refl, subst, sym}
use Rattle.std.specs.Prelude.{◌⊎◌, fold, if◌then◌else◌, nat_lt, Option, Some, None, option_map, take}
use Rattle.std.proofs.Math.Nat.{mul-le-mul_left}
use Rattle.std.proofs.lemmas.List.{append-nil}
use Rattle.rly_core.specs.declared.params.Params.{Params}
use Rattle.rly_hop.specs.declared.sending.event.OutAction.{OutAction}
use Rattle.rly_hop.specs.declared.sending.event.OutEvent.{OutEvent}
use Rattle.rly_hop.specs.declared.sending.event.OutEvent.TheVariants.{Turn}
use Rattle.rly_hop.specs.Sender.{Sender}
use Rattle.rly_hop.specs.Sending.{sending_step}
use Rattle.rly_hop.specs.Spelling.{longest_message}
use Rattle.rly_hop.specs.declared.message.Message.{Message}
use Rattle.rly_link.specs.LinkHistory.{message_in}
use Rattle.rly_hop_pacing.specs.CongestionControl.{is_opening, on_contact, repeats}
use Rattle.rly_hop_pacing.specs.declared.rate.Bucket.{Bucket}
use Rattle.rly_hop_pacing.specs.Rates.{burst, cost, first_bucket, may_take, on_take}
use Rattle.rly_hop_pacing.proofs.RateLaws.{later_mark, paid as pays, same_rate}
use Rattle.rly_plan.specs.ContactPlan.{is_open}
use Rattle.rly_threads_workers.specs.declared.sender_state.SenderState.{SenderState}
use Rattle.rly_threads_workers.specs.SenderTurns.{SenderWorker, again_numbers, calls_from, contact_left, core_count, or_pick, repeat_count, after_out_event, sender_events, sender_on_calls, sender_on_packet, sender_packets, sender_sent, sender_turn, sent_on}
use Rattle.rly_threads_workers.specs.SenderState.{action_on, first_sender_state, let_out, on_moment, rate_after, send_room, sender_on_hearing, set_back_if, with_left}
use Rattle.rly_threads_workers.specs.RateKept.{earliest, latest, total_cost}
use Rattle.rly_threads_workers.specs.Turns.{Given, Made, done_in}

total_append : (xs ys : List (List ℕ)) → total_cost (xs ++ ys) ≡ total_cost xs + total_cost ys
total_append [] ys = omega arith
total_append (x ∷ xs) ys = omega (arith, total_append xs ys)

-- The cost between two states of a bucket, at moments from lo to hi: it was paid from the credit and its growth,
-- and from the first message on from the burst.
record Spends (lo hi : ℕ) (b c : Bucket) (total : ℕ) : Type 0 where
  rate : c.rate ≡ b.rate
  longest : c.longest ≡ b.longest
  risen : b.mark ≤ c.mark
  within : c.mark ≤ max b.mark hi
  paid : (l : ℕ) → c.mark ≤ l → total + c.credit + b.rate * (l - c.mark) ≤ b.credit + b.rate * (l - b.mark)
  begun : ((c ≡ b) × (total ≡ 0))
      ⊎ ((max b.mark lo ≤ c.mark) × ((l : ℕ) → c.mark ≤ l → total + c.credit + b.rate * (l - c.mark) ≤ burst b + b.rate * (l - max b.mark lo)))

spends_none : (lo hi : ℕ) (b : Bucket) → Spends lo hi b b 0
spends_none lo hi b = record {
  rate = refl;
  longest = refl;
  risen = omega arith;
  within = omega arith;
  paid = λ l later. omega arith;
  begun = inl (refl, refl);
}

-- the burst depends only on the rate and the longest message
same_burst : (b c : Bucket) → c.rate ≡ b.rate → c.longest ≡ b.longest → burst c ≡ burst b
same_burst b c rate longest = λ i. max (2 * cost (longest i)) (20000 * rate i)

-- paid after the first message, at the start of the second period
after_first : (b c d : Bucket) (first second : ℕ) → c.rate ≡ b.rate → (bound : ℕ → ℕ)
    → ((l : ℕ) → c.mark ≤ l → first + c.credit + b.rate * (l - c.mark) ≤ bound l)
    → ((l : ℕ) → d.mark ≤ l → second + d.credit + c.rate * (l - d.mark) ≤ c.credit + c.rate * (l - c.mark))
    → c.mark ≤ d.mark → (l : ℕ) → d.mark ≤ l → first + second + d.credit + b.rate * (l - d.mark) ≤ bound l
after_first b c d first second rate bound one two risen l later =
    let second_is : second + d.credit + b.rate * (l - d.mark) ≤ c.credit + b.rate * (l - c.mark) =
    subst (λ r. second + d.credit + r * (l - d.mark) ≤ c.credit + r * (l - c.mark)) rate (two l later) in
    omega (arith, one l (omega (arith, risen, later)), second_is)

from_start : (first second credit late most : ℕ) → first ≡ 0 → second + credit + late ≤ most → first + second + credit + late ≤ most
from_start first second credit late most none h = omega (arith, none, h)

-- one period, and then another
spends_both : (lo hi : ℕ) (b c d : Bucket) (first second : ℕ) → Spends lo hi b c first → Spends lo hi c d second → Spends lo hi b d (first + second)
spends_both lo hi b c d first second x y = record {
  rate = y.rate ∙ x.rate;
  longest = y.longest ∙ x.longest;
  risen = omega (arith, x.risen, y.risen);
  within = omega (arith, x.within, y.within);
  paid = after_first b c d first second x.rate (λ l. b.credit + b.rate * (l - b.mark)) x.paid y.paid y.risen;
  begun = elim x.begun [
    | inl none ↦ elim y.begun [
      | inl still ↦ inl (still.0 ∙ none.0, omega (arith, none.1, still.1))
      | inr some ↦ inr (
        (subst (λ (z : Bucket). max z.mark lo ≤ d.mark) none.0 some.0),
        (λ l later. from_start first second d.credit (b.rate * (l - d.mark)) (burst b + b.rate * (l - max b.mark lo)) none.1
            (subst (λ (z : Bucket). second + d.credit + z.rate * (l - d.mark) ≤ burst z + z.rate * (l - max z.mark lo)) none.0 (some.1 l later))),
      )
    ]
    | inr some ↦ inr (
      omega (arith, some.0, y.risen),
      after_first b c d first second x.rate (λ l. burst b + b.rate * (l - max b.mark lo)) some.1 y.paid y.risen,
    )
  ];
}

-- the time from a mark to a later moment, by way of the mark after it
step_paid : (total left credit rate mark at most l : ℕ) → total + left ≡ min (credit + rate * (at - mark)) most → max mark at ≤ l
    → total + left + rate * (l - max mark at) ≤ credit + rate * (l - mark)
step_paid total left credit rate mark at most l e later =
    let apart : l - mark ≡ (at - mark) + (l - max mark at) = omega (arith, later) in
    rw apart (omega (arith, e))

step_begun : (total left credit rate mark at lo most l : ℕ) → total + left ≡ min (credit + rate * (at - mark)) most → max mark at ≤ l → lo ≤ at
    → total + left + rate * (l - max mark at) ≤ most + rate * (l - max mark lo)
step_begun total left credit rate mark at lo most l e later low =
    let apart : l - max mark lo ≡ (max mark at - max mark lo) + (l - max mark at) = omega (arith, later, low) in
    rw apart (omega (arith, e))

same_longest : (b : Bucket) (bytes at : ℕ) → (on_take b bytes at).longest ≡ b.longest
same_longest b bytes at = grind arith

-- one packet is to be sent
spends_one : (lo hi : ℕ) (b : Bucket) (bytes at : ℕ) → lo ≤ at → at ≤ hi
    → Spends lo hi b (on_take b bytes at) (if may_take b bytes at then cost bytes else 0)
spends_one lo hi b bytes at low high =
    let c = on_take b bytes at in
    let total = if may_take b bytes at then cost bytes else 0 in
    let rate : c.rate ≡ b.rate = same_rate b bytes at in
    let mark : c.mark ≡ max b.mark at = later_mark b bytes at in
    let split : total + c.credit ≡ min (b.credit + b.rate * (at - b.mark)) (burst b) = pays b bytes at in
    record {
      rate = rate;
      longest = same_longest b bytes at;
      risen = omega (arith, mark);
      within = omega (arith, mark, high);
      paid = λ l later. subst (λ m. total + c.credit + b.rate * (l - m) ≤ b.credit + b.rate * (l - b.mark)) (sym mark)
          (step_paid total c.credit b.credit b.rate b.mark at (burst b) l split (omega (arith, mark, later)));
      begun = inr (
        omega (arith, mark, low),
        (λ l later. subst (λ m. total + c.credit + b.rate * (l - m) ≤ burst b + b.rate * (l - max b.mark lo)) (sym mark)
            (step_begun total c.credit b.credit b.rate b.mark at lo (burst b) l split (omega (arith, mark, later)) low)),
      );
    }

-- a hop's bucket after packets that were to be sent, and those of them that were
record Rated (lo hi : ℕ) (b : Bucket) (after : Option Bucket) (sent : List (List ℕ)) : Type 0 where
  bucket : Bucket
  is : after ≡ Some bucket
  spends : Spends lo hi b bucket (total_cost sent)

one_cost : (is : Bool) (packet : List ℕ) → total_cost (if is then packet ∷ [] else []) ≡ (if is then cost (length packet) else 0)
one_cost true packet = omega arith
one_cost false packet = refl

let_out_rated : (lo hi : ℕ) (b : Bucket) (packets : List (List ℕ)) (at : ℕ) → lo ≤ at → at ≤ hi
    → Rated lo hi b (rate_after (Some b) packets at) (let_out (Some b) packets at)
let_out_rated lo hi b [] at low high = record { bucket = b; is = refl; spends = spends_none lo hi b }
let_out_rated lo hi b (packet ∷ others) at low high =
    let bytes = length packet in
    let c = on_take b bytes at in
    let is = may_take b bytes at in
    let rest = let_out_rated lo hi c others at low high in
    let first = if is then packet ∷ [] else [] in
    let later = let_out (Some c) others at in
    let both = spends_both lo hi b c rest.bucket (if is then cost bytes else 0) (total_cost later) (spends_one lo hi b bytes at low high) rest.spends in
    let total : (if is then cost bytes else 0) + total_cost later ≡ total_cost (first ++ later) =
    ap (λ n. n + total_cost later) (sym (one_cost is packet)) ∙ sym (total_append first later) in
    record { bucket = rest.bucket; is = rest.is; spends = subst (Spends lo hi b rest.bucket) total both }

-- one period of packets, and then another
rated_both : (lo hi : ℕ) (b : Bucket) (mid after : Option Bucket) (first second : List (List ℕ)) → (x : Rated lo hi b mid first) → Rated lo hi x.bucket after second
    → Rated lo hi b after (first ++ second)
rated_both lo hi b mid after first second x y = record {
  bucket = y.bucket;
  is = y.is;
  spends = subst (Spends lo hi b y.bucket) (sym (total_append first second))
      (spends_both lo hi b x.bucket y.bucket (total_cost first) (total_cost second) x.spends y.spends);
}

told_rated : (lo hi : ℕ) (in_contact : Bool) (at : ℕ) (p : SenderState) (b : Bucket) (e : OutEvent (List ℕ)) → p.rate ≡ Some b → lo ≤ at → at ≤ hi
    → Rated lo hi b (after_out_event in_contact at p e).rate (sent_on in_contact at p e)
told_rated lo hi in_contact at p b e has low high =
    let packets = sender_packets in_contact (action_on p.core e) in
    subst (λ (r : Option Bucket). Rated lo hi b (rate_after r packets at) (let_out r packets at)) (sym has) (let_out_rated lo hi b packets at low high)

events_rated : (lo hi : ℕ) (in_contact : Bool) (at : ℕ) (p : SenderState) (b : Bucket) (events : List (OutEvent (List ℕ))) → p.rate ≡ Some b → lo ≤ at → at ≤ hi
    → Rated lo hi b (fold (after_out_event in_contact at) p events).rate (sender_sent in_contact at p events)
events_rated lo hi in_contact at p b [] has low high = record { bucket = b; is = has; spends = spends_none lo hi b }
events_rated lo hi in_contact at p b (e ∷ events) has low high =
    let first = told_rated lo hi in_contact at p b e has low high in
    let rest = events_rated lo hi in_contact at (after_out_event in_contact at p e) first.bucket events first.is low high in
    rated_both lo hi b (after_out_event in_contact at p e).rate (fold (after_out_event in_contact at) (after_out_event in_contact at p e) events).rate
    (sent_on in_contact at p e) (sender_sent in_contact at (after_out_event in_contact at p e) events) first rest

calls_rated : (lo hi : ℕ) (w : SenderWorker) (now : ℕ) (made : Made) (p : SenderState) (b : Bucket) (calls : List (OutAction (List ℕ))) → p.rate ≡ Some b
    → lo ≤ made.after.since → made.after.since ≤ hi
    → Rated lo hi b (sender_on_calls w now made p calls).core.rate (sender_on_calls w now made p calls).sent
calls_rated lo hi w now made p b [] has low high = record { bucket = b; is = has; spends = spends_none lo hi b }
calls_rated lo hi w now made p b (first ∷ others) has low high =
    events_rated lo hi (is_open w.plan w.hop made.after.now) made.after.since p b (sender_events (first ∷ others) made.outcome) has low high

set_back_rate : (due : Bool) (p : SenderState) → (set_back_if due p).rate ≡ p.rate
set_back_rate true p = refl
set_back_rate false p = refl

moment_rate : (p : SenderState) (in_contact : Bool) (at : ℕ) → (on_moment p in_contact at).rate ≡ p.rate
moment_rate p in_contact at = set_back_rate (is_opening p.pace in_contact) (record p { pace = on_contact p.pace in_contact })

hearing_rate : (p : SenderState) (m : Option (Message (List ℕ))) → (sender_on_hearing p m).rate ≡ p.rate
hearing_rate p None = refl
hearing_rate p (Some m) = refl

heard_rate : (p : SenderState) (packets : List (List ℕ)) → (fold sender_on_packet p packets).rate ≡ p.rate
heard_rate p [] = refl
heard_rate p (packet ∷ packets) = heard_rate (sender_on_packet p packet) packets ∙ hearing_rate p (message_in (Some packet))

turn_rated : (lo hi : ℕ) (w : SenderWorker) (most : ℕ) (p : SenderState) (b : Bucket) (given : Given) → p.rate ≡ Some b
    → lo ≤ given.made.after.since → given.made.after.since ≤ hi
    → Rated lo hi b (sender_turn w most p given).core.rate (sender_turn w most p given).sent
turn_rated lo hi w most p b given has low high =
    let packets = take 64 given.packets in
    let heard = with_left (contact_left w given.heard.now) (fold sender_on_packet p packets) in
    let in_contact = is_open w.plan w.hop given.heard.now in
    let at = given.heard.since in
    let ready = on_moment heard in_contact at in
    let room = send_room ready at in
    let again = again_numbers ready.pace room at (repeats ready.pace (repeat_count most room) at) in
    let left = sending_step ready.core (Turn (nat_lt (length again) room)) in
    let acting : SenderState = record ready { core = left.0; drained = false; failed = false } in
    calls_rated lo hi w given.heard.now given.made acting b
    (calls_from again (or_pick left.1) (length again + core_count (most - length again) (room - length again) acting left.1))
    (moment_rate heard in_contact at ∙ heard_rate p packets ∙ has) low high

wider_bound : (total credit rate mark after lo low most l : ℕ) → low ≤ lo → max mark lo ≤ after → after ≤ l
    → total + credit + rate * (l - after) ≤ most + rate * (l - max mark lo) → total + credit + rate * (l - after) ≤ most + rate * (l - max mark low)
wider_bound total credit rate mark after lo low most l less risen later h =
    let between : l - max mark lo ≤ l - max mark low = omega (arith, less) in
    let product : rate * (l - max mark lo) ≤ rate * (l - max mark low) = mul-le-mul_left rate between in
    omega (arith, h, product)

-- a longer time is no less
spends_wider : (lo hi low high : ℕ) (b c : Bucket) (total : ℕ) → low ≤ lo → hi ≤ high → Spends lo hi b c total → Spends low high b c total
spends_wider lo hi low high b c total less more x = record {
  rate = x.rate;
  longest = x.longest;
  risen = x.risen;
  within = omega (arith, x.within, more);
  paid = x.paid;
  begun = elim x.begun [
    | inl none ↦ inl none
    | inr some ↦ inr (
      omega (arith, some.0, less),
      (λ l later. wider_bound total c.credit b.rate b.mark c.mark lo low (burst b) l less some.0 later (some.1 l later)),
    )
  ];
}

rated_wider : (lo hi low high : ℕ) (b : Bucket) (after : Option Bucket) (sent : List (List ℕ)) → low ≤ lo → hi ≤ high → Rated lo hi b after sent → Rated low high b after sent
rated_wider lo hi low high b after sent less more x =
    record { bucket = x.bucket; is = x.is; spends = spends_wider lo hi low high b x.bucket (total_cost sent) less more x.spends }

-- turns, whose answers come from the earliest to the latest
turns_rated : (w : SenderWorker) (most : ℕ) (p : SenderState) (b : Bucket) (first : Given) (later : List Given) → p.rate ≡ Some b
    → Rated (earliest first later) (latest first later) b (done_in (sender_turn w most) p (first ∷ later)).core.rate (done_in (sender_turn w most) p (first ∷ later)).sent
turns_rated w most p b first [] has =
    let at = first.made.after.since in
    let x = turn_rated at at w most p b first has (omega arith) (omega arith) in
    subst (λ l. Rated at at b (sender_turn w most p first).core.rate l) (sym (append-nil (sender_turn w most p first).sent)) x
turns_rated w most p b first (next ∷ later) has =
    let at = first.made.after.since in
    let lo = earliest next later in
    let hi = latest next later in
    let low = min at lo in
    let high = max at hi in
    let done = sender_turn w most p first in
    let x = turn_rated low high w most p b first has (omega arith) (omega arith) in
    let rest = turns_rated w most done.core x.bucket next later x.is in
    let y = rated_wider lo hi low high x.bucket (done_in (sender_turn w most) done.core (next ∷ later)).core.rate (done_in (sender_turn w most) done.core (next ∷ later)).sent
    (omega arith) (omega arith) rest in
    rated_both low high b done.core.rate (done_in (sender_turn w most) done.core (next ∷ later)).core.rate done.sent
    (done_in (sender_turn w most) done.core (next ∷ later)).sent x y

-- a bucket of this rate, for messages of at most this many bytes
record OfRate (r most_bytes : ℕ) (of : Option Bucket) : Type 0 where
  bucket : Bucket
  is : of ≡ Some bucket
  rate : bucket.rate ≡ r
  longest : bucket.longest ≡ most_bytes

-- the rate stays the hop's
stays_rated : (w : SenderWorker) (most r most_bytes : ℕ) (p : SenderState) (turns : List Given) → OfRate r most_bytes p.rate → OfRate r most_bytes (done_in (sender_turn w most) p turns).core.rate
stays_rated w most r most_bytes p [] of = of
stays_rated w most r most_bytes p (given ∷ turns) of =
    let at = given.made.after.since in
    let x = turn_rated at at w most p of.bucket given of.is (omega arith) (omega arith) in
    stays_rated w most r most_bytes (sender_turn w most p given).core turns
    (record { bucket = x.bucket; is = x.is; rate = x.spends.rate ∙ of.rate; longest = x.spends.longest ∙ of.longest })

-- the bound, once the time between is counted from the mark
bounded : (total credit rate mark after lo hi most : ℕ) → mark ≤ after → after ≤ max mark hi
    → total + credit + rate * (after - after) ≤ most + rate * (after - max mark lo) → total ≤ most + rate * (hi - lo)
bounded total credit rate mark after lo hi most risen within h =
    let between : after - max mark lo ≤ hi - lo = omega (arith, within) in
    let product : rate * (after - max mark lo) ≤ rate * (hi - lo) = mul-le-mul_left rate between in
    omega (arith, h, product)

spends_bound : (lo hi : ℕ) (b c : Bucket) (total : ℕ) → Spends lo hi b c total → total ≤ burst b + b.rate * (hi - lo)
spends_bound lo hi b c total x = elim x.begun [
  | inl none ↦ omega (arith, none.1)
  | inr some ↦ bounded total c.credit b.rate b.mark c.mark lo hi (burst b) x.risen x.within (some.1 c.mark (omega arith))
]

first_of_rate : (core : Sender) (params : Params) (resend r : ℕ) (rate : Option ℕ) → rate ≡ Some r → OfRate r (longest_message params.payload) (first_sender_state core params resend rate).rate
first_of_rate core params resend r rate is = record {
  bucket = first_bucket r (longest_message params.payload) 0;
  is = ap (option_map (λ x. first_bucket x (longest_message params.payload) 0)) is;
  rate = refl;
  longest = refl;
}

-- over any period of turns
pub rate_kept : (w : SenderWorker) (most : ℕ) (params : Params) (resend r : ℕ) (rate : Option ℕ) (core : Sender) (before : List Given) (first : Given) (later : List Given) → rate ≡ Some r
    → total_cost (done_in (sender_turn w most) (done_in (sender_turn w most) (first_sender_state core params resend rate) before).core (first ∷ later)).sent
    ≤ burst (first_bucket r (longest_message params.payload) 0) + r * (latest first later - earliest first later)
rate_kept w most params resend r rate core before first later is =
    let full = first_bucket r (longest_message params.payload) 0 in
    let p = (done_in (sender_turn w most) (first_sender_state core params resend rate) before).core in
    let of = stays_rated w most r (longest_message params.payload) (first_sender_state core params resend rate) before (first_of_rate core params resend r rate is) in
    let x = turns_rated w most p of.bucket first later of.is in
    let sent = (done_in (sender_turn w most) p (first ∷ later)).sent in
    let bound : total_cost sent ≤ burst of.bucket + of.bucket.rate * (latest first later - earliest first later) =
    spends_bound (earliest first later) (latest first later) of.bucket x.bucket (total_cost sent) x.spends in
    let all : burst of.bucket ≡ burst full = same_burst full of.bucket of.rate of.longest in
    subst (λ n. total_cost sent ≤ burst full + n * (latest first later - earliest first later)) of.rate
    (subst (λ n. total_cost sent ≤ n + of.bucket.rate * (latest first later - earliest first later)) all bound)
