-- Before the next moment there is nothing to do.
use Rattle.std.proofs.Common.{◌≡◌, ◌∙◌, ℕ, zero, suc, ◌+◌, ◌-◌, ◌≤◌, Bool, true, false, not, ap, arith, max, min, refl, sym}
use Rattle.std.proofs.lemmas.Bool.Decides.{nat_tests}
use Rattle.std.specs.Prelude.{if◌then◌else◌, Option, Some, None, ◌&&◌, ◌||◌, nat_lt}
use Rattle.rly_hop_pacing.specs.CongestionControl.{ControlView, is_recovering, is_timeout, open_room, way_count, window_room}
use Rattle.rly_hop_pacing.specs.Moments.{IsBefore, sooner}
use Rattle.rly_hop_pacing.specs.NextMoments.{again_after, can_send, credit_after, has_to_send, has_work, is_paced, next_moment, probe_after, next_timeout}
use Rattle.rly_hop_pacing.specs.Pacers.{pacer_moment, pacer_room}
use Rattle.rly_hop_pacing.specs.Windows.{shortest}
use Rattle.rly_hop_pacing.proofs.NextMoments.{both_before, send-earlier, timeout-steady, way-steady}
use Rattle.rly_hop_pacing.proofs.PacerMoments.{pacer-steady}

-- what is room later is room now, if the pacer's room is kept back only by what it waits for
room-cases : (opened recovering rated : Bool) (few window left paced_then paced : ℕ)
    → (not rated && not recovering && nat_lt 0 left ≡ true → paced ≡ 0 → paced_then ≡ 0)
    → nat_lt 0 (if opened then (if recovering then few else (if rated then window else min left paced_then)) else 0) ≡ true
    → nat_lt 0 (if opened then (if recovering then few else (if rated then window else min left paced)) else 0) ≡ true
room-cases false recovering rated few window left paced_then paced kept some = some
room-cases true true rated few window left paced_then paced kept some = some
room-cases true false true few window left paced_then paced kept some = some
room-cases true false false few window left paced_then zero kept some =
    let left_some : nat_lt 0 left ≡ true = grind (arith, nat_tests) in
    let none : paced_then ≡ 0 = kept left_some refl in
    absurd (grind (arith, nat_tests))
room-cases true false false few window left paced_then (suc paced) kept some = grind (arith, nat_tests)

kept-paced : (t : ℕ) (sends paced : Bool) (o : Option ℕ) → sends ≡ true → paced ≡ true
    → IsBefore t (if sends && paced then o else None) → IsBefore t o
kept-paced t true true o send all before = before
kept-paced t true false o send all before = absurd (cc)
kept-paced t false paced o send all before = absurd (cc)

room-earlier : (p : ControlView) (at t : ℕ) (wants : Bool) → at ≤ t → has_to_send p at wants ≡ true → IsBefore t (again_after p at)
    → IsBefore t (credit_after p at wants) → nat_lt 0 (open_room p t) ≡ true → nat_lt 0 (open_room p at) ≡ true
room-earlier p at t wants later send again credit some =
    let few = (if p.is_due then 1 else 0) + (if nat_lt p.flight.reached p.recover then 1 else 0) in
    let paced_then = pacer_room p.pacer p.congestion.allowed (shortest p.congestion) t in
    let way : way_count p t ≡ way_count p at = way-steady p at t later again in
    room-cases p.is_open (is_recovering p) p.congestion.is_rated few p.congestion.window (window_room p at) paced_then
    (pacer_room p.pacer p.congestion.allowed (shortest p.congestion) at)
    (λ all none. pacer-steady p.pacer p.congestion.allowed (shortest p.congestion) at t later
    (kept-paced t (has_to_send p at wants) (is_paced p at)
    (pacer_moment p.pacer p.congestion.allowed (shortest p.congestion) at) send all credit) none)
    (sym (ap (λ w. nat_lt 0 (if p.is_open then (if is_recovering p then few else (if p.congestion.is_rated then p.congestion.window
    else min (max (p.congestion.allowed - w) (if p.is_due then 1 else 0)) paced_then)) else 0)) way) ∙ some)

-- what isn't true now isn't true later
not-later : (later now : Bool) → (later ≡ true → now ≡ true) → now ≡ false → later ≡ false
not-later true now earlier none = sym (earlier refl) ∙ none
not-later false now earlier none = refl

and-earlier : (a_then b_then a b : Bool) → (a_then ≡ true → a ≡ true) → (a ≡ true → b_then ≡ true → b ≡ true)
    → (a_then && b_then) ≡ true → (a && b) ≡ true
and-earlier true true a b first second all = grind (arith, first refl, second (first refl) refl)
and-earlier true false a b first second all = absurd (cc)
and-earlier false b_then a b first second all = absurd (cc)

can_send-earlier : (p : ControlView) (at t : ℕ) (wants : Bool) → at ≤ t → IsBefore t (again_after p at)
    → IsBefore t (probe_after p at) → IsBefore t (credit_after p at wants) → can_send p t wants ≡ true → can_send p at wants ≡ true
can_send-earlier p at t wants later again probe credit =
    and-earlier (has_to_send p t wants) (nat_lt 0 (open_room p t)) (has_to_send p at wants) (nat_lt 0 (open_room p at))
    (send-earlier p at t wants later again probe) (λ send. room-earlier p at t wants later send again credit)

pub neither : (a b : Bool) → (a || b) ≡ false → (a ≡ false) × (b ≡ false)
neither true b none = absurd (cc)
neither false b none = (refl, none)

both-false : (a b : Bool) → a ≡ false → b ≡ false → (a || b) ≡ false
both-false a b first second = ap (λ x. x || b) first ∙ second

idle-then : (p : ControlView) (at t : ℕ) (wants : Bool) → at ≤ t → has_work p at wants ≡ false
    → IsBefore t (sooner (next_timeout p at) (sooner (again_after p at) (sooner (probe_after p at) (credit_after p at wants))))
    → has_work p t wants ≡ false
idle-then p at t wants later idle before =
    let first = both_before t (next_timeout p at) (sooner (again_after p at) (sooner (probe_after p at) (credit_after p at wants))) before in
    let second = both_before t (again_after p at) (sooner (probe_after p at) (credit_after p at wants)) first.1 in
    let third = both_before t (probe_after p at) (credit_after p at wants) second.1 in
    let now = neither (is_timeout p at) (can_send p at wants) idle in
    both-false (is_timeout p t) (can_send p t wants) (timeout-steady p at t later first.0 ∙ now.0)
    (not-later (can_send p t wants) (can_send p at wants) (can_send-earlier p at t wants later second.0 third.0 third.1) now.1)

-- a closed contact
closed-idle : (p : ControlView) (t : ℕ) (wants : Bool) → p.is_open ≡ false → has_work p t wants ≡ false
closed-idle p t wants closed = grind (arith, nat_tests)

pub idle-cases : (p : ControlView) (at t : ℕ) (wants opened busy : Bool) → p.is_open ≡ opened → has_work p at wants ≡ busy → at ≤ t
    → IsBefore t (if not opened then None else (if busy then Some at
    else sooner (next_timeout p at) (sooner (again_after p at) (sooner (probe_after p at) (credit_after p at wants)))))
    → has_work p t wants ≡ false
idle-cases p at t wants false busy is_open is_busy later before = closed-idle p t wants is_open
idle-cases p at t wants true true is_open is_busy later before = absurd (omega arith)
idle-cases p at t wants true false is_open is_busy later before = idle-then p at t wants later is_busy before

pub idle-before : (p : ControlView) (at t : ℕ) (wants : Bool) → at ≤ t → IsBefore t (next_moment p at wants)
    → has_work p t wants ≡ false
idle-before p at t wants later before = idle-cases p at t wants p.is_open (has_work p at wants) refl refl later before
