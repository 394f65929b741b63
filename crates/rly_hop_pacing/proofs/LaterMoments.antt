-- Without work now, the next moment is later.
use Rattle.std.proofs.Common.{◌≡◌, ◌∙◌, ℕ, ◌+◌, ◌-◌, ◌/◌, ◌^◌, ◌<◌, Bool, true, false, not, List, [], ◌∷◌, ap, arith, inl, inr, map, max, min, refl, take}
use Rattle.std.proofs.lemmas.Bool.Decides.{nat_tests}
use Rattle.std.specs.Prelude.{if◌then◌else◌, ◌⊎◌, filter, is_some, Option, Some, None, ◌&&◌, ◌||◌, ◌==◌, nat_lt}
use Rattle.rly_hop_pacing.specs.CongestionControl.{ControlView, first_of, is_missing, is_timeout, is_wide, may_probe, may_time_out, on_time, open_room, probe_wait, quiet_if_probe, quiet_since, repeats, slack, spare_number, waiting_since, with_timeout}
use Rattle.rly_hop_pacing.specs.Flights.{sent_numbers}
use Rattle.rly_hop_pacing.specs.Moments.{IsBefore, moment_after, sooner, soonest}
use Rattle.rly_hop_pacing.specs.NextMoments.{IsIdle, again_after, can_send, credit_after, first_missing, has_to_send, has_work, is_paced, missing_after, next_moment, number_after, probe_after, probe_from, spare_after, next_timeout, while_wide}
use Rattle.rly_hop_pacing.specs.Pacers.{pacer_moment}
use Rattle.rly_hop_pacing.specs.Scoreboards.{is_heard, last_sent, passed_after, repeated_after}
use Rattle.rly_hop_pacing.specs.Timers.{round_trip, timer_moment}
use Rattle.rly_hop_pacing.specs.Windows.{shortest}
use Rattle.rly_hop_pacing.specs.declared.pacer.Pacer.{Pacer}
use Rattle.rly_hop_pacing.specs.declared.scoreboard.Scoreboard.{Scoreboard}
use Rattle.std.specs.Int.{div_ceil}
use Rattle.rly_hop_pacing.proofs.NextWork.{neither}
use Rattle.std.proofs.Math.Seq.{take-nil}

-- a wait that hasn't passed passes later
waits-later : (since wait at : ℕ) → at < 2 ^ 64 - 1 → IsBefore at (moment_after since wait at)
waits-later since wait at fits = grind (arith, nat_tests)

sooner-later : (at : ℕ) (a b : Option ℕ) → IsBefore at a → IsBefore at b → IsBefore at (sooner a b)
sooner-later at None b first second = second
sooner-later at (Some x) None first second = first
sooner-later at (Some x) (Some y) first second = omega arith

gated-later : (c : Bool) (at : ℕ) (o : Option ℕ) → IsBefore at o → IsBefore at (if c then o else None)
gated-later true at o later = later
gated-later false at o later = tt

gated_none-later : (c : Bool) (at : ℕ) (o : Option ℕ) → IsBefore at o → IsBefore at (if c then None else o)
gated_none-later true at o later = tt
gated_none-later false at o later = later

wide-later : (p : ControlView) (at : ℕ) (o : Option ℕ) → IsBefore at o → IsBefore at (while_wide p o)
wide-later p at None later = tt
wide-later p at (Some moment) later = gated-later (is_wide p moment) at (Some moment) later

passed-later : (b : Scoreboard) (number at most : ℕ) → at < 2 ^ 64 - 1 → IsBefore at (passed_after b number at most)
passed-later b number at most fits =
    let sent = last_sent b number in
    let wait = min (b.trip + most) (2 ^ 64 - 1) in
    gated-later (nat_lt sent.order b.newest) at (moment_after sent.at wait at) (waits-later sent.at wait at fits)

repeated-later : (b : Scoreboard) (number at wait : ℕ) → at < 2 ^ 64 - 1 → IsBefore at (repeated_after b number at wait)
repeated-later b number at wait fits =
    let sent = last_sent b number in
    gated-later sent.again at (moment_after sent.at wait at) (waits-later sent.at wait at fits)

missing-later : (p : ControlView) (at number : ℕ) → at < 2 ^ 64 - 1 → IsBefore at (missing_after p at number)
missing-later p at number fits =
    gated-later (p.is_reporting && not (is_heard p.board number)) at (passed_after p.board number at (slack p))
    (passed-later p.board number at (slack p) fits)

spare-later : (p : ControlView) (at number : ℕ) → at < 2 ^ 64 - 1 → IsBefore at (spare_after p at number)
spare-later p at number fits =
    let o = repeated_after p.board number at (round_trip p.timer / 4) in
    gated-later (not (is_heard p.board number)) at (while_wide p o)
    (wide-later p at o (repeated-later p.board number at (round_trip p.timer / 4) fits))

all-later : (at : ℕ) (f : ℕ → Option ℕ) → ((n : ℕ) → IsBefore at (f n)) → (l : List ℕ) → IsBefore at (soonest (map f l))
all-later at f each [] = tt
all-later at f each (n ∷ l) = sooner-later at (f n) (soonest (map f l)) (each n) (all-later at f each l)

again-later : (p : ControlView) (at : ℕ) → at < 2 ^ 64 - 1 → IsBefore at (again_after p at)
again-later p at fits =
    all-later at (number_after p at)
    (λ n. sooner-later at (missing_after p at n) (spare_after p at n) (missing-later p at n fits) (spare-later p at n fits))
    (sent_numbers p.flight)

probe-gated_later : (p : ControlView) (c : Bool) (since at : ℕ) → at < 2 ^ 64 - 1
    → IsBefore at (probe_from p at (if c then Some since else None))
probe-gated_later p true since at fits = waits-later since (probe_wait p) at fits
probe-gated_later p false since at fits = tt

probe-later : (p : ControlView) (at : ℕ) (news : Option ℕ) → at < 2 ^ 64 - 1 → IsBefore at (probe_from p at (quiet_if_probe p news))
probe-later p at None fits = tt
probe-later p at (Some news_at) fits = probe-gated_later p (may_probe p) (quiet_since p news_at) at fits

timeout-later : (p : ControlView) (at : ℕ) → at < 2 ^ 64 - 1 → IsBefore at (next_timeout p at)
timeout-later p at fits =
    gated-later (may_time_out p) at (timer_moment p.timer (waiting_since p) at) (waits-later (waiting_since p) p.timer.wait at fits)

pacer-later : (p : Pacer) (allowed round at : ℕ) → at < 2 ^ 64 - 1 → IsBefore at (pacer_moment p allowed round at)
pacer-later p allowed round at fits =
    let wait = div_ceil (max round 1 - p.credit) allowed in
    gated_none-later ((allowed == 0) || (round == 2 ^ 32 - 1)) at (moment_after p.mark wait at) (waits-later p.mark wait at fits)

credit-later : (p : ControlView) (at : ℕ) (wants : Bool) → at < 2 ^ 64 - 1 → IsBefore at (credit_after p at wants)
credit-later p at wants fits =
    gated-later (has_to_send p at wants && is_paced p at) at (pacer_moment p.pacer p.congestion.allowed (shortest p.congestion) at)
    (pacer-later p.pacer p.congestion.allowed (shortest p.congestion) at fits)

idle-later : (p : ControlView) (at : ℕ) (wants busy : Bool) → at < 2 ^ 64 - 1 → busy ≡ false
    → IsBefore at (if busy then Some at
    else sooner (next_timeout p at) (sooner (again_after p at) (sooner (probe_after p at) (credit_after p at wants))))
idle-later p at wants true fits idle = absurd (cc)
idle-later p at wants false fits idle =
    let sent = sooner (probe_after p at) (credit_after p at wants) in
    sooner-later at (next_timeout p at) (sooner (again_after p at) sent) (timeout-later p at fits)
    (sooner-later at (again_after p at) sent (again-later p at fits)
    (sooner-later at (probe_after p at) (credit_after p at wants) (probe-later p at p.news_at fits) (credit-later p at wants fits)))

pub next-later : (p : ControlView) (at : ℕ) (wants : Bool) → at < 2 ^ 64 - 1 → has_work p at wants ≡ false
    → IsBefore at (next_moment p at wants)
next-later p at wants fits idle =
    gated_none-later (not p.is_open) at (if has_work p at wants then Some at
    else sooner (next_timeout p at) (sooner (again_after p at) (sooner (probe_after p at) (credit_after p at wants))))
    (idle-later p at wants (has_work p at wants) fits idle)

-- a turn without a Timeout
pub no-timeout : (b : Bool) (p q : ControlView) → b ≡ false → (if b then q else p) ≡ p
no-timeout true p q none = absurd (cc)
no-timeout false p q none = refl

pub same-work : (p : ControlView) (at : ℕ) (wants : Bool) → is_timeout p at ≡ false → can_send (on_time p at) at wants ≡ can_send p at wants
same-work p at wants none =
    let q : with_timeout p at ≡ p = no-timeout (is_timeout p at) p _ none in
    ap (λ (q : ControlView). can_send (record q { round = record q.round { is_limited = q.round.is_limited || (q.is_open && (open_room q at == 0)) } }) at wants) q

no-first : (l : List ℕ) → is_some (first_of l) ≡ false → l ≡ []
no-first [] none = refl
no-first (x ∷ l) none = absurd (cc)

not-some : (o : Option ℕ) → is_some o ≡ false → o ≡ None
not-some None none = refl
not-some (Some x) none = absurd (cc)

-- nothing is to be sent
send-none : (p : ControlView) (at : ℕ) (wants : Bool) → has_to_send p at wants ≡ false
    → ((most : ℕ) → repeats p most at ≡ []) × (spare_number p at ≡ None) × (wants ≡ false)
send-none p at wants none =
    let last = neither (wants || is_some (first_missing p at)) (is_some (spare_number p at)) none in
    let first = neither wants (is_some (first_missing p at)) last.0 in
    let empty = no-first (filter (is_missing p at) (sent_numbers p.flight)) first.1 in
    ((λ most. ap (take most) empty ∙ take-nil most), not-some (spare_number p at) last.1, first.0)

idle-room : (send : Bool) (room : ℕ) {P : Type 0} → (send && nat_lt 0 room) ≡ false → (send ≡ false → P) → (room ≡ 0) ⊎ P
idle-room true room none else_none = inl (grind (arith, nat_tests))
idle-room false room none else_none = inr (else_none refl)

pub idle-turn : (p : ControlView) (at : ℕ) (wants : Bool) → has_work p at wants ≡ false → IsIdle p at wants
idle-turn p at wants none =
    let both = neither (is_timeout p at) (can_send p at wants) none in (
      both.0,
      idle-room (has_to_send (on_time p at) at wants) (open_room (on_time p at) at) (same-work p at wants both.0 ∙ both.1)
          (send-none (on_time p at) at wants),
    )
